-- Pairs of rows with no later limit are as they were.
use Rattle.stability.proofs.Laws.Later.{still_both}
use Rattle.stability.proofs.passes.any_from.Goals as goal

pub returns : goal.returns
returns c =
    let a = c.args.c in
    let e = c.of.ensures in
    λ w. still_both a.ns.now a.at.now a.old.now a.new.now a.p a.q (c.pass.ensures c.if-pass.false)
    (rw (e.columns.0, e.columns.1, e.limits.0, e.limits.1, e.ranges.0, e.ranges.1) at (c.pass-2.ensures w))
