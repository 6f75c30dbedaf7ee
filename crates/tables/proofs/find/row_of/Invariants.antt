use Rattle.tables.specs.Laws.Find.{Sought}
use Rattle.tables.proofs.find.row_of.Given as goal

abbrev pub invariant-loop-k : goal.invariant-loop-k
invariant-loop-k l = Sought l.t l.n l.k
