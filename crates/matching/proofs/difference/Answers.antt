-- Two bytes hold every difference within reach but 32,768, and its negative has the same square.
use Rattle.std.proofs.Common.{◌≡◌, ◌≤◌, ◌∙◌, ◌-ℤ◌, ap, arith, ℤ, pos, negsuc, nat_abs, refl, w16}
use Rattle.std.specs.Int.{int_wrap}
use Rattle.std.proofs.lemmas.Int.{int_wrap_fits, wrapping_sub_is}
use native.Mathlib.Decide.{ℕ_discrete}
use Rattle.matching.specs.Definitions.Pairs.{square}
use Rattle.matching.specs.Definitions.Columns.{reach}
use Rattle.matching.proofs.difference.Goals as goal

square_wrap : (z : ℤ) → nat_abs z ≤ reach → square (int_wrap w16 z) ≡ square z
unfolding int_wrap
square_wrap (negsuc n) h = ap square (int_wrap_fits w16 (negsuc n) (record { sfits = omega arith }))
square_wrap (pos n) h = go (ℕ_discrete n reach)
  where
    go : Dec (n ≡ reach) → square (int_wrap w16 (pos n)) ≡ square (pos n)
    go (yes e) = rw e refl
    go (no d) = ap square (int_wrap_fits w16 (pos n) (record { sfits = omega (arith, d) }))

pub returns : goal.returns
returns c = ap square (wrapping_sub_is w16 c.args.p c.args.q c.ranges.p c.ranges.q) ∙ square_wrap (c.args.p -ℤ c.args.q) c.requires
