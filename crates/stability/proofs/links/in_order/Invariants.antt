-- The links before k are in order.
use Rattle.stability.specs.Links.{Ordered}
use Rattle.stability.proofs.links.in_order.Given as goal

abbrev pub invariant-loop-k : goal.invariant-loop-k
invariant-loop-k l = Ordered l.links l.k
