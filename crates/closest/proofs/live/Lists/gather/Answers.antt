use native.Mathlib.Omega.{arith}
use Rattle.closest.proofs.Laws.Live.{gathering_start, gathering_on, gathering_end}
use Rattle.closest.proofs.live.Lists.gather.Goals as goal

pub loop-k-init : goal.loop-k-init
loop-k-init c = gathering_start _ _ _ _ _ _ c.requires.2 c.requires.0

pub list-w-requires : goal.list-w-requires
list-w-requires c = let i = c.loop-k.invariant in (i.sized, c.requires.1, omega arith, omega (arith, i.live.high))

pub loop-k-preserved : goal.loop-k-preserved
loop-k-preserved c = gathering_on _ _ _ _ _ _ _ _ _ c.loop-k.invariant c.loop-k-test.true c.requires.3 _ _ c.list-w.ensures

pub returns : goal.returns
returns c = gathering_end _ _ _ _ _ _ _ _ _ c.loop-k.invariant c.loop-k-test.false
