-- Pairs block whichever row they are seen from.
use Rattle.stability.proofs.Laws.Later.{still_swap}
use Rattle.stability.proofs.passes.any.Goals as goal

pub returns-then-spread : goal.returns-then-spread
returns-then-spread c =
    let a = c.args.c in
    let e = c.of.ensures in
    λ w. still_swap a.ns.now a.at.now a.old.now a.new.now a.q a.p
    (rw (e.columns.0, e.columns.1, e.limits.0, e.limits.1, e.ranges.0, e.ranges.1) at (c.any_from.ensures w))
