-- The rows before i block with no lane.
use Rattle.std.proofs.Common.{ℕ}
use Rattle.stability.specs.Ranges.{RowOf}
use Rattle.stability.specs.Lanes.{StableLanes}
use Rattle.stability.proofs.Laws.Ranges.{up_to}
use Rattle.stability.proofs.blocking.group.Given as goal

abbrev pub invariant-loop-i : goal.invariant-loop-i
invariant-loop-i l =
    let r = l.rows in
    (k : ℕ) → RowOf (up_to r.range.from l.i) k → StableLanes r.ns.now r.at.now r.limits.now l.b.lanes.now k
