-- Rows that are settled, or left as they are, denote the same nodes.
use Rattle.packing.proofs.Laws.Packed.{packed_none}
use Rattle.packing.proofs.arrange.Goals as goal

pub returns-then-n-le-FEW : goal.returns-then-n-le-FEW
returns-then-n-le-FEW c = packed_none
