-- The lanes before k have their rows.
use Rattle.stability.specs.Lanes.{Copied}
use Rattle.stability.proofs.lanes.Lanes.fill.Given as goal

abbrev pub invariant-loop-k : goal.invariant-loop-k
invariant-loop-k l = let r = l.rows in Copied r.ns.now r.at.now r.limits.now r.range l.self l.k
