-- The earliest so far is one of the rows that are kept.
use Prim.Native.Nat.{◌<◌}
use Rattle.repair.specs.Sizes.{surplus_rows}
use Rattle.repair.proofs.surplus.Surplus.find_earliest.Given as goal

abbrev pub invariant-loop-i : goal.invariant-loop-i
invariant-loop-i l = l.e < surplus_rows
