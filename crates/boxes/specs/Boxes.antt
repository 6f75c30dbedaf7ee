-- Bounding boxes.
use Rattle.std.specs.Prelude.{ℕ, ◌≤◌, ◌<◌, List, ℤ, pos, nat_abs, get_or, ◌≤ℤ◌, ◌⊎◌}
use Rattle.matching.specs.Definitions.Pairs.{squared_distance}
use Rattle.matching.specs.Definitions.Columns.{Inside}
use Rattle.matching.specs.Definitions.Rows.{across, upward, x_at, y_at}

-- A box is a row: how far it goes west, east, south and north.
abbrev pub west : List ℤ → ℤ
west b = get_or b 0 (pos 0)

abbrev pub east : List ℤ → ℤ
east b = get_or b 1 (pos 0)

abbrev pub south : List ℤ → ℤ
south b = get_or b 2 (pos 0)

abbrev pub north : List ℤ → ℤ
north b = get_or b 3 (pos 0)

-- The position (u, v) is in the box.
pub record In (b : List ℤ) (u v : ℤ) : Type 0 where
  pub west : west b ≤ℤ u
  pub east : u ≤ℤ east b
  pub south : south b ≤ℤ v
  pub north : v ≤ℤ north b

-- The box is where code works.
abbrev pub Inner : List ℤ → Type 0
Inner b = Inside (west b) (south b) × Inside (east b) (north b)

-- It stands around the positions of the rows from first to end.
pub record Around (at : List (List ℤ)) (first end : ℕ) (b : List ℤ) : Type 0 where
  pub inner : Inner b
  pub holds : (k : ℕ) → first ≤ k → k < end → In b (x_at at k) (y_at at k)

-- No position in the box is nearer to p than r says.
pub record Clear (p b : List ℤ) (r : ℕ) : Type 0 where
  pub small : r < 4294967295
  pub nearest : (u v : ℤ) → In b u v → r ≤ squared_distance (across p) (upward p) u v

-- No two positions of two boxes are nearer to each other than r says.
pub record Gap (b c : List ℤ) (r : ℕ) : Type 0 where
  pub small : r < 4294967295
  pub nearest : (x y u v : ℤ) → In b x y → In c u v → r ≤ squared_distance x y u v

-- q stands between p and u, or at one of them.
abbrev pub Between : ℤ → ℤ → ℤ → Type 0
Between p q u = ((p ≤ℤ q) × (q ≤ℤ u)) ⊎ ((u ≤ℤ q) × (q ≤ℤ p))

-- On the way from p to each position from low to high r is passed; it is one of p, low and high.
pub record Clamped (p low high r : ℤ) : Type 0 where
  pub between : (u : ℤ) → low ≤ℤ u → u ≤ℤ high → Between p r u
  pub small : (n : ℕ) → nat_abs p ≤ n → nat_abs low ≤ n → nat_abs high ≤ n → nat_abs r ≤ n

-- The same for both coordinates of a position and a box.
pub record Nearest (p b r : List ℤ) : Type 0 where
  pub inside : Inside (across p) (upward p) → Inner b → Inside (across r) (upward r)
  pub between : (u v : ℤ) → In b u v → Between (across p) (across r) u × Between (upward p) (upward r) v

-- The box r has room for the box b and for the position p, and is inside where these are.
pub record Grown (b p r : List ℤ) : Type 0 where
  pub inner : Inner b → Inside (across p) (upward p) → Inner r
  pub holds : (u v : ℤ) → In b u v → In r u v
  pub here : In r (across p) (upward p)
