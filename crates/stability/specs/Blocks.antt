-- Blocks of rows that follow each other: what a block knows of each of its rows.
use Rattle.std.specs.Prelude.{ℕ, ◌+◌, ◌*◌, ◌≤◌, ◌<◌, List, [], ℤ, get_or}
use Rattle.matching.specs.declared.Range.{Range}
use Rattle.matching.specs.Definitions.Rows.{x_at, y_at}
use Rattle.matching.specs.Definitions.Sizes.{block_rows}
use Rattle.boxes.specs.Boxes.{In, Inner}
use Rattle.stability.specs.declared.blocks.Block.{Block}
use Rattle.stability.specs.Ranges.{RowOf, part}

-- A row at (u, v) with number n and limit l is in the block.
pub record Holds (b : Block) (u v : ℤ) (n l : ℕ) : Type 0 where
  pub position : In b.bounds u v
  pub least : b.least ≤ n
  pub limit : l ≤ b.limit

-- The rows of r, with the limits L, are in the block.
pub record Encloses (ns : List ℕ) (at : List (List ℤ)) (L : List ℕ) (r : Range) (b : Block) : Type 0 where
  pub inner : Inner b.bounds
  pub holds : (k : ℕ) → RowOf r k → Holds b (x_at at k) (y_at at k) (get_or ns k 0) (get_or L k 0)

-- A block without rows.
abbrev pub none : Block
none = record { bounds = []; least = 0; limit = 0 }

-- Each block of the range is there.
abbrev pub Surveyed : List ℕ → List (List ℤ) → List ℕ → Range → List Block → Type 0
Surveyed ns at L r S = (g : ℕ) → r.from + g * block_rows < r.to → Encloses ns at L (part r g) (get_or S g none)
