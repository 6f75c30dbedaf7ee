-- Lanes: filled one by one, and what they say of the block's rows. Assumes nothing.
use Prim.Native.Nat.{ℕ, ◌+◌, ◌-◌, ◌/◌, ◌%◌, ◌≤◌, ◌<◌}
use mathlib.Core.Path.{◌≡◌}
use mathlib.Core.List.{List}
use native.Mathlib.Nat.{div-add-mod'}
use native.Mathlib.Omega.{arith}
use lib.IntN.{ℤ}
use lib.ListN.{get_or}
use Rattle.matching.specs.declared.Range.{Range}
use Rattle.matching.specs.Definitions.Rows.{key, gap}
use Rattle.matching.specs.Definitions.Sizes.{block_rows, number_range}
use Rattle.stability.specs.Ranges.{RowOf}
use Rattle.stability.specs.declared.lanes.Lanes.{Lanes}
use Rattle.stability.specs.Blocking.{Blocks}
use Rattle.stability.specs.Lanes.{row_of, Copied, StableLanes}

-- A limit is read the same from a key and from its distance and number.
pub key_split : (l : ℕ) → key (l / number_range) (l % number_range) ≡ l
key_split l = div-add-mod' l number_range

-- The row of a lane is one of the range's.
row_in : (r : Range) → r.from < r.to → (k : ℕ) → RowOf r (row_of r k)
row_in r some k = (omega arith, omega arith)

module _ (ns : List ℕ) (at : List (List ℤ)) (L : List ℕ) (r : Range) (c : Lanes) (lanes : Copied ns at L r c block_rows) (some : r.from < r.to) where
  -- A row, perhaps of another set, that blocks with no lane blocks with no row.
  pub lanes_stable : (ms : List ℕ) (to : List (List ℤ)) (K : List ℕ) (i : ℕ) → r.to ≤ r.from + block_rows → StableLanes ms to K c i
      → (j : ℕ) → RowOf r j → ¬ Blocks (gap to i at j) (get_or ms i 0) (get_or K i 0) (get_or ns j 0) (get_or L j 0)
  unfolding gap
  lanes_stable ms to K i room stable j h =
      let l = lanes (j - r.from) (omega arith) in
      let e : row_of r (j - r.from) ≡ j = omega arith in
      rw (e) at (rw (l.number, l.x, l.y, l.limit) at (stable (j - r.from) (omega arith)))
