-- The index by number: chains of rows whose numbers share a slot, one table of slots for each master.
use Rattle.std.specs.Prelude.{ℕ, zero, suc, ◌+◌, ◌-◌, ◌*◌, ◌/◌, ◌%◌, ◌≤◌, ◌<◌, ◌≡◌, cond, List, eqb, leb, ltb, length, get_or}
use Rattle.matching.specs.declared.Range.{Range}
use Rattle.matching.specs.Definitions.Lists.{All}
use Rattle.matching.specs.Definitions.Nodes.{Unique}
use Rattle.matching.specs.Definitions.Sizes.{node_rows, half, set_rows}
use Rattle.matching.specs.Definitions.Rows.{size}
use Rattle.tables.specs.Definitions.Tables.{nodes_in}
use Rattle.load.specs.Load.{Rows}

-- The slots of both masters.
abbrev pub slot_rows : ℕ
slot_rows = 2048

-- The slot of a number in the master whose rows begin at `from`.
abbrev pub slot_of : ℕ → ℕ → ℕ
slot_of from n = from / half % 2 * (slot_rows / 2) + n * 2654435769 % 4294967296 / 4194304

-- Room for an index: a head for each slot, and a next row for each row.
pub record Indexed (heads next : List ℕ) : Type 0 where
  pub slots : length heads ≡ slot_rows
  pub rows : length next ≡ set_rows

-- Along a chain from the entry i, f entries at most: the first row of the range with the number n, or the range's end.
unfoldable pub walk : Range → List ℕ → List ℕ → ℕ → ℕ → ℕ → ℕ
walk r ns next n zero i = r.to
walk r ns next n (suc f) i =
    cond (leb i r.from) r.to
    (cond (ltb r.to i) r.to
    (cond (eqb (get_or ns (i - 1) 0) n) (i - 1) (walk r ns next n f (get_or next (i - 1) 0))))

-- The look-up as a definition, so that equal numbers give equal answers.
unfoldable pub look_up : Range → List ℕ → List ℕ → List ℕ → ℕ → ℕ
unfolding walk
look_up r ns heads next n = walk r ns next n node_rows (get_or heads (slot_of r.from n) 0)

-- Row k of the range has the number n, or k is the range's end.
pub record Found (r : Range) (ns heads next : List ℕ) (n k : ℕ) : Type 0 where
  pub most : k ≤ r.to
  pub low : k < r.to → r.from ≤ k
  pub number : k < r.to → get_or ns k 0 ≡ n
  pub same : k ≡ look_up r ns heads next n

-- Each row of r is found by its number among those of w.
abbrev pub FoundAll : Range → Range → List ℕ → List ℕ → List ℕ → Type 0
FoundAll r w ns heads next = (i : ℕ) → r.from ≤ i → i < r.to → look_up w ns heads next (get_or ns i 0) ≡ i

-- The rows of both sorts, with those between them.
abbrev pub span_of : Range → Range → Range
span_of on off = record { from = on.from; to = off.to }

-- Row k is one of a master's.
pub data Among (r : Rows) (k : ℕ) : Type 0 where
  on_curve : r.on.from ≤ k → k < r.on.to → Among r k
  off_curve : r.off.from ≤ k → k < r.off.to → Among r k

-- No number stands twice in a master.
abbrev pub Distinct : Rows → List ℕ → Type 0
Distinct r ns = (i k : ℕ) → Among r i → Among r k → get_or ns i 0 ≡ get_or ns k 0 → i ≡ k

-- Rows with the numbers of those of a table's nodes that are of a sort: where none stands twice in the rows, and all are of a sort, none does in the table.
pub record Named (t : List ℕ) (r : Rows) (ns : List ℕ) : Type 0 where
  pub room : length ns ≡ set_rows
  pub order_on : r.on.from ≤ r.on.to
  pub order_off : r.off.from ≤ r.off.to
  pub end_on : r.on.to ≤ set_rows
  pub end_off : r.off.to ≤ set_rows
  pub count : size r.on + size r.off ≤ length (nodes_in t)
  pub unique : All (λ v. v.sort ≤ 1) (nodes_in t) → Distinct r ns → Unique (nodes_in t)
