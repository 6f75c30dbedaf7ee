use mathlib.Core.Path.{◌≡◌}
use native.Mathlib.Omega.{arith}
use Rattle.closest.proofs.Laws.Nearest.{sought_none, sought_on}
use Rattle.closest.proofs.nearest.search.Goals as goal

pub loop-k-init : goal.loop-k-init
loop-k-init c = sought_none _ _ _ _ _ _ (omega arith)

pub measure-requires : goal.measure-requires
measure-requires c = let p = c.requires in (p.0, omega (arith, p.1.room), p.1.inside c.loop-k.k c.loop-k.auto.k c.loop-k-test.true)

pub loop-k-preserved : goal.loop-k-preserved
loop-k-preserved c = sought_on _ _ _ _ _ _ _ _ _ c.loop-k.auto.k c.loop-k.invariant c.measure.ensures c.closer-r.ensures

pub returns : goal.returns
returns c = let l = c.loop-k in let e : l.k ≡ c.args.end = omega (arith, c.requires.1.low, l.auto.k-end) in rw e at l.invariant
