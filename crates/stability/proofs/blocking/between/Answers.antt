-- Blocks that are apart hold no blocking pair.
use Rattle.stability.proofs.blocking.between.Goals as goal

pub returns-then-is_apart : goal.returns-then-is_apart
returns-then-is_apart c = λ w i h k l. c.is_apart.ensures c.if-is_apart.true _ _ _ _ _ _ _ _ (c.requires.holds i h) (c.args.b.enclosed.holds k l)
