-- A limit that no pair of the boxes reaches.
use native.Mathlib.Omega.{arith}
use Rattle.stability.proofs.Laws.Blocks.{past}
use borrow.Author.Tests.{leb-true}
use Rattle.stability.proofs.blocks.Block.is_apart.Goals as goal

pub returns-then-pack-self : goal.returns-then-pack-self
returns-then-pack-self c = λ w x y u v n l m k p q b. past _ _ _ _ _ (omega (arith, p.limit)) (c.gap-d.ensures.nearest x y u v p.position q.position) q.least b.0

pub returns-else-pack-self : goal.returns-else-pack-self
returns-else-pack-self c = λ w x y u v n l m k p q b. past _ _ _ _ _ (omega (arith, q.limit, leb-true)) (c.gap-d.ensures.nearest x y u v p.position q.position) p.least b.1
