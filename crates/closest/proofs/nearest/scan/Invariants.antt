-- The loop's invariant: of the nearest so far and what the range's blocks ahead of block b list, best has the least key.
use Rattle.closest.specs.Nearest.{Visited}
use Rattle.closest.proofs.nearest.scan.Given as goal

abbrev pub invariant-loop-b : goal.invariant-loop-b
invariant-loop-b l = Visited l.p l.blocks.lists.listed l.blocks.lists.points l.blocks.ends l.fn.r l.b l.initial.best l.best
