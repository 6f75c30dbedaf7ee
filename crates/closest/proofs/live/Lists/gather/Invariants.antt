-- The loop's invariant: the rows before k are listed, and w is the next free place.
use Rattle.closest.proofs.Laws.Live.{Gathering}
use Rattle.closest.proofs.live.Lists.gather.Given as goal

abbrev pub invariant-loop-k : goal.invariant-loop-k
invariant-loop-k l = Gathering l.rows.ns.now l.rows.at.now l.left l.first l.end l.initial.self l.self l.k l.w
