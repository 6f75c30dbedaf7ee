-- Lanes: a block's rows in columns of one length; a limit stands in them as a distance and a number.
use Rattle.std.specs.Prelude.{ℕ, ◌+◌, ◌-◌, ◌<◌, min, ◌≡◌, cond, List, ℤ, pos, get_or, ltb}
use Rattle.matching.specs.declared.Range.{Range}
use Rattle.matching.specs.Definitions.Pairs.{squared_distance}
use Rattle.matching.specs.Definitions.Columns.{Inside}
use Rattle.matching.specs.Definitions.Rows.{x_at, y_at, key}
use Rattle.matching.specs.Definitions.Sizes.{block_rows}
use Rattle.boxes.specs.Boxes.{Inner}
use Rattle.stability.specs.declared.blocks.Block.{Block}
use Rattle.stability.specs.declared.lanes.Lanes.{Lanes}
use Rattle.stability.specs.Blocking.{Blocks}
use Rattle.stability.specs.Blocks.{Holds}

-- A pair d apart whose other node has the number n is ahead of the limit (far, high) where d + late n high is at most far.
abbrev pub late : ℕ → ℕ → ℕ
late n high = cond (ltb n high) 0 1

-- The row of lane k: the last of the range where there is no other.
abbrev pub row_of : Range → ℕ → ℕ
row_of r k = min (r.from + k) (r.to - 1)

-- Lane k has the number, the position and the limit of row i.
pub record Lane (ns : List ℕ) (at : List (List ℤ)) (L : List ℕ) (c : Lanes) (k i : ℕ) : Type 0 where
  pub number : get_or c.numbers k 0 ≡ get_or ns i 0
  pub x : get_or c.x k (pos 0) ≡ x_at at i
  pub y : get_or c.y k (pos 0) ≡ y_at at i
  pub limit : key (get_or c.far k 0) (get_or c.high k 0) ≡ get_or L i 0

-- The first n lanes have their rows.
abbrev pub Copied : List ℕ → List (List ℤ) → List ℕ → Range → Lanes → ℕ → Type 0
Copied ns at L r c n = (k : ℕ) → k < n → Lane ns at L c k (row_of r k)

-- Lanes in a block, at positions inside.
pub record Enclosed (b : Block) (c : Lanes) : Type 0 where
  pub inner : Inner b.bounds
  pub inside : (k : ℕ) → k < block_rows → Inside (get_or c.x k (pos 0)) (get_or c.y k (pos 0))
  pub holds : (k : ℕ) → k < block_rows → Holds b (get_or c.x k (pos 0)) (get_or c.y k (pos 0)) (get_or c.numbers k 0) (key (get_or c.far k 0) (get_or c.high k 0))

-- Row i, with its limit in K, blocks with no lane.
abbrev pub StableLanes : List ℕ → List (List ℤ) → List ℕ → Lanes → ℕ → Type 0
StableLanes ns at K c i =
    (k : ℕ) → k < block_rows
    → ¬ Blocks (squared_distance (x_at at i) (y_at at i) (get_or c.x k (pos 0)) (get_or c.y k (pos 0))) (get_or ns i 0) (get_or K i 0)
    (get_or c.numbers k 0) (key (get_or c.far k 0) (get_or c.high k 0))
