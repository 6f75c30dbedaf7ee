-- The links before k are taken.
use Rattle.stability.specs.Links.{Took}
use Rattle.stability.proofs.links.take_all.Given as goal

abbrev pub invariant-loop-k : goal.invariant-loop-k
invariant-loop-k l = Took l.set.ns.now l.set.at.now l.set.cs.now l.set.sorts l.links l.places l.k l.taken l.last
