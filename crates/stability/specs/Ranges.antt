-- Ranges of rows.
use Rattle.std.specs.Prelude.{ℕ, ◌+◌, ◌*◌, min, ◌≤◌, ◌<◌, ◌≡◌, ◌⊎◌, List, ℤ, length, get_or}
use Rattle.matching.specs.declared.Range.{Range}
use Rattle.matching.specs.declared.Spans.{Spans}
use Rattle.matching.specs.Definitions.Rows.{Sorts, x_at, y_at}
use Rattle.matching.specs.Definitions.Columns.{Inside}
use Rattle.matching.specs.Definitions.Sizes.{node_rows, set_rows, block_rows}

-- Row k is one of the range's.
abbrev pub RowOf : Range → ℕ → Type 0
RowOf r k = (r.from ≤ k) × (k < r.to)

-- It is one of a sort's, of either master.
abbrev pub OfSpans : Spans → ℕ → Type 0
OfSpans s k = RowOf s.a k ⊎ RowOf s.b k

-- It is one of either sort's.
abbrev pub OfSorts : Sorts → ℕ → Type 0
OfSorts S k = OfSpans S.on k ⊎ OfSpans S.off k

-- The rows of block g of a range.
abbrev pub part : Range → ℕ → Range
part r g = record { from = r.from + g * block_rows; to = min (r.from + g * block_rows + block_rows) r.to }

-- A range of a set whose rows have a number and a position inside each.
pub record Ranged (ns : List ℕ) (at : List (List ℤ)) (r : Range) : Type 0 where
  pub numbers : length ns ≡ set_rows
  pub positions : length at ≡ set_rows
  pub order : r.from ≤ r.to
  pub most : r.to ≤ r.from + node_rows
  pub end : r.to ≤ set_rows
  pub inside : (k : ℕ) → RowOf r k → Inside (x_at at k) (y_at at k)

-- Each sort has such ranges.
abbrev pub RangedSorts : List ℕ → List (List ℤ) → Sorts → Type 0
RangedSorts ns at S = (Ranged ns at S.on.a × Ranged ns at S.on.b) × Ranged ns at S.off.a × Ranged ns at S.off.b

-- A range with room for the rows' limits.
pub record Ruled (ns : List ℕ) (at : List (List ℤ)) (L : List ℕ) (r : Range) : Type 0 where
  pub ranged : Ranged ns at r
  pub limits : length L ≡ set_rows

-- The rows of R are written, each with what P says of it and of what stood there; the others are as they were.
pub record Filled (R : ℕ → Type 0) (P : ℕ → ℕ → ℕ → Type 0) (old new : List ℕ) : Type 0 where
  pub room : length new ≡ length old
  pub rows : (k : ℕ) → R k → P k (get_or old k 0) (get_or new k 0)
  pub others : (k : ℕ) → ¬ R k → get_or new k 0 ≡ get_or old k 0
