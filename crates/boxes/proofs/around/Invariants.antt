-- The box stands around the rows passed.
use Rattle.boxes.specs.Boxes.{Around}
use Rattle.boxes.proofs.around.Given as goal

abbrev pub invariant-loop-k : goal.invariant-loop-k
invariant-loop-k l = Around l.at l.first l.k l.b
