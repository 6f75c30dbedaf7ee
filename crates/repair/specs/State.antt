-- What a repair works on.
use Rattle.std.specs.Prelude.{ℕ, ◌<◌, ◌≡◌, List, [], length, get_or, ℤ}
use Rattle.matching.specs.Definitions.Sizes.{set_blocks}
use Rattle.boxes.specs.Boxes.{Inner}

-- Each block has a box, which is inside.
pub record Boxed (boxes : List (List ℤ)) : Type 0 where
  pub size : length boxes ≡ set_blocks
  pub inner : (b : ℕ) → b < set_blocks → Inner (get_or boxes b [])
