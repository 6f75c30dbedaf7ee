-- Tables in the set.
use Rattle.std.specs.Prelude.{ℕ, zero, suc, ◌+◌, ◌-◌, ◌*◌, ◌/◌, ◌≤◌, ◌<◌, ◌≡◌, List, [], ◌∷◌, ℤ, length, set}
use Rattle.matching.specs.declared.Range.{Range}
use Rattle.matching.specs.Definitions.Rows.{Sorts, range, spans_of, Spanned, node_in, nodes_on}
use Rattle.matching.specs.Definitions.Lists.{Reordered}
use Rattle.matching.specs.declared.Master.{Master}
use Rattle.matching.specs.Definitions.Nodes.{each, Node, of_sort}
use Rattle.matching.specs.Definitions.Columns.{tabulate}
use Rattle.matching.specs.Definitions.Sizes.{block_rows, half, set_rows}
use Rattle.tables.specs.Definitions.Tables.{nodes_in}
use Rattle.packing.specs.Packed.{Same}
use Rattle.matching.specs.declared.BySort.{BySort}

-- The rows of a master by sort.
abbrev pub Rows : Type 0
Rows = BySort Range

-- The three columns of a set have a place for each row.
pub record Columns (ns : List ℕ) (at : List (List ℤ)) (cs : List ℕ) : Type 0 where
  pub numbers : length ns ≡ set_rows
  pub positions : length at ≡ set_rows
  pub capacities : length cs ≡ set_rows

-- Row i is written: number n, position p, capacity c. The other rows are as they were.
pub record Written (i n : ℕ) (p : List ℤ) (c : ℕ) (ns : List ℕ) (at : List (List ℤ)) (cs ns' : List ℕ) (at' : List (List ℤ)) (cs' : List ℕ) : Type 0 where
  pub number : ns' ≡ set ns i n
  pub position : at' ≡ set at i p
  pub capacity : cs' ≡ set cs i c

-- The node v is stored in row i.
abbrev pub Stored : Node → ℕ → List ℕ → List (List ℤ) → List ℕ → List ℕ → List (List ℤ) → List ℕ → Type 0
Stored v i = Written i v.number (v.x ∷ v.y ∷ []) v.capacity

-- The row after row i where a node of the sort s is of the sort u; else row i again.
pub data Advanced (i s u r : ℕ) : Type 0 where
  alike : s ≡ u → r ≡ i + 1 → Advanced i s u r
  other : (s ≡ u → ⊥) → r ≡ i → Advanced i s u r

-- The rows from `from` to e are the nodes of a table that are of the sort u, in some order; rows past the free one are as they were.
pub record Decoded (t : List ℕ) (u from e : ℕ) (ns : List ℕ) (at : List (List ℤ)) (cs ns' : List ℕ) (at' : List (List ℤ)) (cs' : List ℕ) : Type 0 where
  pub columns : Columns ns' at' cs'
  pub count : e ≡ from + length (of_sort u (nodes_in t))
  pub nodes : Reordered (of_sort u (nodes_in t)) (tabulate (node_in u ns' at' cs') from (e - from))
  pub apart : (k : ℕ) → (from ≤ k → k ≤ e → ⊥) → Same k ns at cs ns' at' cs'

-- A block begins with row r, past row k and not far from it.
pub record NextBlock (k r : ℕ) : Type 0 where
  pub past : k < r
  pub near : r ≤ k + block_rows
  pub block : r ≡ r / block_rows * block_rows

-- The range of a sort in a master's rows.
abbrev pub rows_of : Rows → ℕ → Range
rows_of r zero = r.on
rows_of r (suc u) = r.off

-- A range for each sort of a table's nodes, with a free row behind it; rows of the other master are as they were.
pub record Whole (t : List ℕ) (from : ℕ) (r : Rows) (ns : List ℕ) (at : List (List ℤ)) (cs ns' : List ℕ) (at' : List (List ℤ)) (cs' : List ℕ) : Type 0 where
  pub columns : Columns ns' at' cs'
  pub first : r.on.from ≡ from
  pub next : NextBlock r.on.to r.off.from
  pub end : r.off.to < from + half
  pub count : (u : ℕ) → u ≤ 1 → (rows_of r u).to ≡ (rows_of r u).from + length (of_sort u (nodes_in t))
  pub nodes : (u : ℕ) → u ≤ 1 → Reordered (of_sort u (nodes_in t)) (tabulate (node_in u ns' at' cs') (rows_of r u).from ((rows_of r u).to - (rows_of r u).from))
  pub apart : (k : ℕ) → (from ≤ k → k < from + half → ⊥) → Same k ns at cs ns' at' cs'

-- Both tables are in the set, each sort of a master's nodes in some order. Nothing is said of what the tables hold.
pub record InSet (a b ns : List ℕ) (at : List (List ℤ)) (cs : List ℕ) (S : Sorts) : Type 0 where
  pub columns : Columns ns at cs
  pub spans : (u : ℕ) → Spanned (spans_of S u)
  pub ahead : (m : Master) → (range S.on m).to ≤ (range S.off m).from
  pub count : (u : ℕ) → u ≤ 1 → (m : Master) → (range (spans_of S u) m).to ≡ (range (spans_of S u) m).from + length (of_sort u (nodes_in (each a b m)))
  pub nodes : (u : ℕ) → u ≤ 1 → (m : Master) → Reordered (of_sort u (nodes_in (each a b m))) (nodes_on u (spans_of S u) ns at cs m)

-- There is a free row behind each range.
pub record Free (S : Sorts) : Type 0 where
  pub on : (m : Master) → (range S.on m).to < (range S.off m).from
  pub off : (m : Master) → (range S.off m).to < each half set_rows m

pub record Loaded (a b ns : List ℕ) (at : List (List ℤ)) (cs : List ℕ) (S : Sorts) : Type 0 where
  pub rows : InSet a b ns at cs S
  pub free : Free S
