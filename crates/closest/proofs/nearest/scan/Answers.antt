use Rattle.closest.proofs.Laws.Spans.{counted, counted_out}
use Rattle.closest.proofs.Laws.Nearest.{visited_none, visited_on, visited_all}
use Rattle.closest.proofs.nearest.scan.Goals as goal

pub loop-b-init : goal.loop-b-init
loop-b-init c = visited_none _ _ _ _ _ c.requires.1 _

pub visit-best-requires : goal.visit-best-requires
visit-best-requires c = let p = c.requires in (p.0, p.2 c.loop-b.b (counted p.1 c.div_ceil-b-end.ensures c.loop-b.auto.b c.loop-b-test.true))

pub loop-b-preserved : goal.loop-b-preserved
loop-b-preserved c = let u = c.requires.1 in visited_on _ _ _ _ _ u _ _ _ c.loop-b.invariant _ (counted u c.div_ceil-b-end.ensures c.loop-b.auto.b c.loop-b-test.true) c.visit-best.ensures

pub returns : goal.returns
returns c = let u = c.requires.1 in visited_all _ _ _ _ _ u _ _ _ c.loop-b.invariant (counted_out u c.div_ceil-b-end.ensures c.loop-b-test.false)
