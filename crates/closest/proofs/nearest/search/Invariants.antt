-- The loop's invariant: of the nearest so far and the places before k, r has the least key.
use Rattle.closest.specs.Nearest.{Sought}
use Rattle.closest.proofs.nearest.search.Given as goal

abbrev pub invariant-loop-k : goal.invariant-loop-k
invariant-loop-k l = Sought l.p l.lists.listed l.lists.points l.first l.k l.initial.r l.r
