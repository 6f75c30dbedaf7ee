-- Boxes of nothing but zeros are inside.
use mathlib.Core.List.{List, [], ◌∷◌}
use lib.IntN.{ℤ, pos}
use lib.ListN.{replicate, length-replicate, get_or-replicate}
use Rattle.matching.specs.Definitions.Sizes.{set_blocks}
use Rattle.repair.specs.State.{Boxed}
use native.Mathlib.Omega.{arith}
use Rattle.repair.proofs.repair.Goals as goal

abbrev zeros : List ℤ
zeros = pos 0 ∷ pos 0 ∷ pos 0 ∷ pos 0 ∷ []

boxed : Boxed (replicate set_blocks zeros)
boxed = record {
  size = length-replicate set_blocks zeros;
  inner = λ b l. rw (get_or-replicate set_blocks b zeros [] l) ((omega arith, omega arith), (omega arith, omega arith));
}

pub invariant_of-rest : goal.invariant_of-rest
invariant_of-rest c = record { boxed = boxed }
