use Rattle.tables.specs.Laws.Find.{Counts}
use Rattle.tables.proofs.find.count.Given as goal

abbrev pub invariant-loop-k : goal.invariant-loop-k
invariant-loop-k l = Counts l.t l.k
