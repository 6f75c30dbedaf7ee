-- The loop's invariant: the blocks of the range ahead of block b are laid out.
use Rattle.closest.specs.Blocks.{Laid}
use Rattle.closest.proofs.blocks.Blocks.lay.Given as goal

abbrev pub invariant-loop-b : goal.invariant-loop-b
invariant-loop-b l = Laid l.rows.ns.now l.rows.at.now l.left l.fn.r l.b l.initial.self.lists l.initial.self.ends l.initial.self.boxes l.self.lists l.self.ends l.self.boxes
