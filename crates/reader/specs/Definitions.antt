-- What a reader over a table gives (document 01, 'Calls').
use Rattle.std.specs.Prelude.{ℕ, zero, suc, ◌+◌, ◌*◌, min, Bool, true, false, cond, ◌&&◌, List, [], ◌∷◌, Option, None, Some, eqb, leb, ltb, length}
use Rattle.matching.specs.Definitions.Nodes.{Node}
use Rattle.tables.specs.Definitions.Sizes.{node_size, node_rows, table_size}
use Rattle.tables.specs.Definitions.Tables.{node_from, row_number, nodes_in, first_fault}
use Rattle.reader.specs.declared.Node.{Node as Held}

-- The k-th of some nodes, from 0, and the first with the number n.
unfoldable pub nth : List Node → ℕ → Option Node
nth [] k = None
nth (v ∷ A) zero = Some v
nth (v ∷ A) (suc k) = nth A k

unfoldable pub numbered : ℕ → List Node → Option Node
numbered n [] = None
numbered n (v ∷ A) = cond (eqb v.number n) (Some v) (numbered n A)

-- A table of the stated length without a faulty row.
abbrev pub missing : Option ℕ → Bool
missing None = true
missing (Some k) = false

unfoldable pub sound : List ℕ → Bool
sound t = eqb (length t) table_size && missing (first_fault t)

-- The nodes that a reader gives: those of a sound table, in row order; of any other none.
unfoldable pub readable : List ℕ → List Node
readable t = cond (sound t) (nodes_in t) []

-- A reader's row: where it starts; a row behind the last stands for a table that is refused.
abbrev pub refused_row : ℕ
refused_row = node_rows + 1

unfoldable pub start_row : List ℕ → ℕ
start_row t = cond (sound t) 0 refused_row

-- The row n nodes on.
unfoldable pub row_after : ℕ → ℕ → ℕ
row_after k n = cond (ltb node_rows k) k (min node_rows (k + n))

-- The node in row k, and the one with the number n for a reader at row k.
unfoldable pub node_at : List ℕ → ℕ → Option Node
node_at t k = cond (eqb (length t) table_size && ltb k node_rows) (cond (eqb (row_number t k) 0) None (Some (node_from t (node_size * k)))) None

unfoldable pub node_of : List ℕ → ℕ → ℕ → Option Node
node_of t k n = cond (eqb (length t) table_size && leb k node_rows) (numbered n (nodes_in t)) None

-- The code's own node as the definitions have it, and its answer, by cases.
abbrev pub as_node : Held → Node
as_node v = record { number = v.number; x = v.x; y = v.y; capacity = v.capacity; sort = v.sort }

abbrev pub found_of : Option Node → Option Held
found_of None = None
found_of (Some v) = Some (record { number = v.number; x = v.x; y = v.y; capacity = v.capacity; sort = v.sort })
