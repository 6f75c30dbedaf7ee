use Rattle.lists.proofs.Laws.Compare.{Common}
use Rattle.lists.proofs.compare.common_rows.Given as goal

abbrev pub invariant-loop-k : goal.invariant-loop-k
invariant-loop-k l = Common l.old l.new l.k
