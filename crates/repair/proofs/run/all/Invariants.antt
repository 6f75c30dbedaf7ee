-- The run is no further than there is room for.
use Prim.Native.Nat.{◌≤◌}
use Rattle.matching.specs.Definitions.Sizes.{link_rows}
use Rattle.repair.proofs.run.all.Given as goal

abbrev pub invariant-loop : goal.invariant-loop
invariant-loop l = (l.r.0 ≤ link_rows) × (l.r.1.0 ≤ link_rows)
