-- The lanes are the rows of r.
use Rattle.stability.proofs.Laws.Lanes.{lanes_stable}
use Rattle.stability.proofs.blocking.with_block.Goals as goal

pub returns : goal.returns
returns c = let p = c.requires in λ w i j h g. lanes_stable _ _ _ _ _ c.fill.ensures p.1 _ _ c.args.p.limits.now i p.2 (c.by_blocks.ensures w i h) j g
