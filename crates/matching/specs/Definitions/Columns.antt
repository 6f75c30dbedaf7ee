-- Lists by index, and the positions on which code works.
use Rattle.std.specs.Prelude.{ℕ, zero, suc, ◌≤◌, List, [], ◌∷◌, ℤ, ◌-ℤ◌, nat_abs}
pub use Rattle.matching.specs.Definitions.Sizes.{edge, reach}

-- f at the n places from k on.
unfoldable pub tabulate : {X : Type 0} → (ℕ → X) → ℕ → ℕ → List X
tabulate f k zero = []
tabulate f k (suc n) = f k ∷ tabulate f (suc k) n

-- Positions are within the edge,
abbrev pub Inside : ℤ → ℤ → Type 0
Inside x y = (nat_abs x ≤ edge) × (nat_abs y ≤ edge)

-- so that differences are within reach, and the squared distance fits four bytes.
abbrev pub Reach : ℤ → ℤ → ℤ → ℤ → Type 0
Reach x y u v = (nat_abs (x -ℤ u) ≤ reach) × (nat_abs (y -ℤ v) ≤ reach)
