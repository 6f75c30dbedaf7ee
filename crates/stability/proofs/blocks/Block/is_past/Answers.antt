-- What is past a limit that the block shows is past that of each row.
use native.Mathlib.Omega.{arith}
use Rattle.stability.proofs.Laws.Blocks.{past}
use borrow.Author.Tests.{leb-true}
use Rattle.stability.proofs.blocks.Block.is_past.Goals as goal

pub returns-then-pack-l-2 : goal.returns-then-pack-l-2
returns-then-pack-l-2 c = λ w u v m k h b. past _ _ _ _ _ (omega arith) (c.clearance-d.ensures.nearest u v h.position) h.least b.0

pub returns-else-pack-l-2 : goal.returns-else-pack-l-2
returns-else-pack-l-2 c = λ w u v m k h b. past _ c.args.n _ _ _ (omega (arith, h.limit, leb-true)) (c.clearance-d.ensures.nearest u v h.position) (omega arith) b.1
