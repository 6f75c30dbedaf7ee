use native.Mathlib.Omega.{arith}
use Rattle.closest.proofs.Laws.Spans.{counted, counted_out}
use Rattle.closest.proofs.Laws.Blocks.{laid_start, laid_on, laid_end}
use Rattle.closest.proofs.blocks.Blocks.lay.Goals as goal

pub loop-b-init : goal.loop-b-init
loop-b-init c = laid_start _ _ _ _ _ _ _ c.requires

pub gather-e-requires : goal.gather-e-requires
gather-e-requires c = let r = c.requires.range in let b = counted r c.div_ceil-b-end.ensures c.loop-b.auto.b c.loop-b-test.true in (c.loop-b.invariant.sized, c.requires.lefts, omega (arith, c.min-end.ensures, b), omega (arith, c.min-end.ensures, r.room))

pub loop-b-preserved : goal.loop-b-preserved
loop-b-preserved c = let e = c.min-end.ensures in laid_on _ _ _ _ _ _ _ c.requires _ _ _ _ c.loop-b.invariant (counted c.requires.range c.div_ceil-b-end.ensures c.loop-b.auto.b c.loop-b-test.true) _ _ _ _ (rw e at c.gather-e.ensures) (rw e at c.lowest.ensures) (rw e at c.around.ensures)

pub returns : goal.returns
returns c = laid_end _ _ _ _ _ _ _ c.requires _ _ _ _ c.loop-b.invariant (counted_out c.requires.range c.div_ceil-b-end.ensures c.loop-b-test.false)
