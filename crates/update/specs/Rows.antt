-- What single rows of the set are before and after, the rows of one sort, and those of one master.
use Rattle.std.specs.Prelude.{ℕ, ◌+◌, ◌-◌, ◌*◌, ◌≤◌, ◌<◌, ◌≡◌, List, [], ◌∷◌, Option, Some, None, ℤ, length, get_or}
use Rattle.matching.specs.declared.Range.{Range}
use Rattle.matching.specs.Definitions.Rows.{Sorts, range, spans_of, node_in}
use Rattle.matching.specs.Definitions.Lists.{Reordered}
use Rattle.matching.specs.declared.Master.{Master}
use Rattle.matching.specs.Definitions.Nodes.{Node, Unique, of_sort}
use Rattle.matching.specs.Definitions.Edits.{depart}
use Rattle.matching.specs.Definitions.Columns.{tabulate}
use Rattle.matching.specs.Definitions.Sizes.{node_rows, set_rows}
use Rattle.tables.specs.Definitions.Sizes.{node_size, table_size}
use Rattle.tables.specs.Definitions.Tables.{node_from, nodes_in}
use Rattle.stability.specs.Barred.{Patched}
use Rattle.load.specs.Load.{Rows, Columns, rows_of}

-- Row k is the first of the range with the number z, or its end where none has it.
pub record First (r : Range) (ns : List ℕ) (z k : ℕ) : Type 0 where
  pub low : r.from ≤ k
  pub high : k ≤ r.to
  pub is : k < r.to → get_or ns k 0 ≡ z
  pub before : (j : ℕ) → r.from ≤ j → j < k → get_or ns j 0 ≡ z → ⊥

-- The first row with it, where there is one.
abbrev pub Found : Range → List ℕ → ℕ → Option ℕ → Type 0
Found r ns z None = First r ns z r.to
Found r ns z (Some k) = First r ns z k × (k < r.to)

-- Row k of the table t has the node with the number z, which is of the sort u.
pub record NodeRow (t : List ℕ) (z u k : ℕ) : Type 0 where
  pub within : k < node_rows
  pub sort : (node_from t (node_size * k)).sort ≡ u
  pub first : Reordered (of_sort u (nodes_in t)) (node_from t (node_size * k) ∷ depart z (of_sort u (nodes_in t)))

-- The row of that node, or that no node of the sort has the number.
abbrev pub RowIn : List ℕ → ℕ → ℕ → Option ℕ → Type 0
RowIn t z u None = depart z (of_sort u (nodes_in t)) ≡ of_sort u (nodes_in t)
RowIn t z u (Some k) = NodeRow t z u k

-- The nodes of the rows from first to end.
abbrev pub nodes_between : ℕ → ℕ → ℕ → List ℕ → List (List ℤ) → List ℕ → List Node
nodes_between u first end ns at cs = tabulate (node_in u ns at cs) first (end - first)

-- The range's rows are the nodes of the table t that are of the sort u, but for the node with the number z. There is a free row behind them.
pub record Outdated (t : List ℕ) (z u : ℕ) (r : Range) (ns : List ℕ) (at : List (List ℤ)) (cs L : List ℕ) : Type 0 where
  pub size : length t ≡ table_size
  pub unique : Unique (nodes_in t)
  pub columns : Columns ns at cs
  pub limits : length L ≡ set_rows
  pub order : r.from ≤ r.to
  pub room : r.to < set_rows
  pub edited : Reordered (depart z (of_sort u (nodes_in t))) (depart z (nodes_between u r.from r.to ns at cs))

-- Row k is as it was.
pub record Same (k : ℕ) (ns : List ℕ) (at : List (List ℤ)) (cs L ns' : List ℕ) (at' : List (List ℤ)) (cs' L' : List ℕ) : Type 0 where
  pub number : get_or ns k 0 ≡ get_or ns' k 0
  pub position : get_or at k [] ≡ get_or at' k []
  pub capacity : get_or cs k 0 ≡ get_or cs' k 0
  pub limit : get_or L k 0 ≡ get_or L' k 0

-- A row of a sort u is fresh, or has the number, the position and the limit of a row of the range before.
abbrev pub Patches : ℕ → Range → ℕ → List ℕ → List (List ℤ) → List ℕ → List ℕ → List (List ℤ) → List ℕ → Type 0
Patches u r e ns at L ns' at' L' =
    (S : Sorts) (m : Master) → range (spans_of S u) m ≡ r → (k : ℕ) → r.from ≤ k → k < e → Patched ns at S L ns' at' L' u m k

-- The range's rows, which now end at e, are the nodes of the table that are of the sort u; rows past the free one are as they were.
pub record Current (t : List ℕ) (u : ℕ) (r : Range) (ns : List ℕ) (at : List (List ℤ)) (cs L : List ℕ) (e : ℕ)
    (ns' : List ℕ) (at' : List (List ℤ)) (cs' L' : List ℕ) : Type 0 where
  pub columns : Columns ns' at' cs'
  pub limits : length L' ≡ set_rows
  pub order : r.from ≤ e
  pub near : e ≤ r.to + 1
  pub nodes : Reordered (of_sort u (nodes_in t)) (nodes_between u r.from e ns' at' cs')
  pub others : (k : ℕ) → (r.from ≤ k → k ≤ r.to → ⊥) → Same k ns at cs L ns' at' cs' L'
  pub patched : Patches u r e ns at L ns' at' L'

-- The same for both sorts of a master's rows, of which the on-curve ones stand ahead.
pub record OutdatedBoth (t : List ℕ) (z : ℕ) (m : Rows) (ns : List ℕ) (at : List (List ℤ)) (cs L : List ℕ) : Type 0 where
  pub ahead : m.on.to < m.off.from
  pub rows : (u : ℕ) → u ≤ 1 → Outdated t z u (rows_of m u) ns at cs L

pub record CurrentBoth (t : List ℕ) (m : Rows) (ns : List ℕ) (at : List (List ℤ)) (cs L : List ℕ) (r : Rows)
    (ns' : List ℕ) (at' : List (List ℤ)) (cs' L' : List ℕ) : Type 0 where
  pub columns : Columns ns' at' cs'
  pub limits : length L' ≡ set_rows
  pub first : (u : ℕ) → (rows_of r u).from ≡ (rows_of m u).from
  pub order : (u : ℕ) → (rows_of m u).from ≤ (rows_of r u).to
  pub near : (u : ℕ) → (rows_of r u).to ≤ (rows_of m u).to + 1
  pub nodes : (u : ℕ) → u ≤ 1 → Reordered (of_sort u (nodes_in t)) (nodes_between u (rows_of r u).from (rows_of r u).to ns' at' cs')
  pub others : (k : ℕ) → (m.on.from ≤ k → k ≤ m.off.to → ⊥) → Same k ns at cs L ns' at' cs' L'
  pub patched : (u : ℕ) → u ≤ 1 → Patches u (rows_of m u) (rows_of r u).to ns at L ns' at' L'
