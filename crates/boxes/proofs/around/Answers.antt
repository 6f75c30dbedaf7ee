use Rattle.boxes.proofs.Laws.Boxes.{around_more}
use Rattle.std.proofs.Common.{arith}
use Rattle.boxes.proofs.around.Goals as goal

pub loop-k-preserved : goal.loop-k-preserved
loop-k-preserved c = around_more _ _ (c.requires.2 c.loop-k.k (omega arith) (omega arith)) _ _ _ c.loop-k.invariant c.grow-next.ensures
