-- One link more.
use native.Mathlib.Omega.{arith}
use mathlib.Core.Path.{◌≡◌}
use Rattle.std.proofs.Common.{length}
use Rattle.stability.proofs.Laws.Links.{took_none, took_more}
use Rattle.stability.proofs.links.take_all.Goals as goal

pub loop-k-init : goal.loop-k-init
loop-k-init c = took_none _ _ _ _ _ _ _ _ c.requires.1 c.requires.2

pub loop-k-preserved : goal.loop-k-preserved
loop-k-preserved c = took_more _ _ _ _ _ _ _ _ _ _ _ c.args.set.fits c.loop-k.invariant (c.take.ensures c.if-not-take.false)

pub returns : goal.returns
returns c = let e : c.loop-k.k ≡ length c.args.links.now = omega arith in λ w. rw e at c.loop-k.invariant
