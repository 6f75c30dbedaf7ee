-- There is room for the links.
use Prim.Native.Nat.{◌≤◌}
use Rattle.matching.specs.Definitions.Sizes.{link_rows}
use Rattle.repair.proofs.run.copy_links.Given as goal

abbrev pub invariant-loop-k : goal.invariant-loop-k
invariant-loop-k l = l.n ≤ link_rows
