-- The loop's invariant: no number before row k is below n.
use Rattle.closest.specs.Blocks.{Least, number_of}
use Rattle.closest.proofs.blocks.lowest.Given as goal

abbrev pub invariant-loop-k : goal.invariant-loop-k
invariant-loop-k l = Least (number_of l.ns) l.first l.k l.n
