-- Links to be repaired, and room for the new ones.
use Rattle.std.specs.Prelude.{ℕ, ◌≤◌, ◌≡◌, List, length}
use Rattle.matching.specs.Definitions.Sizes.{link_rows}

-- Rows of links and the rows of their nodes.
pub record Links (L P : List (List ℕ)) (n : ℕ) : Type 0 where
  pub most : n ≤ link_rows
  pub links : length L ≡ link_rows
  pub places : length P ≡ link_rows
