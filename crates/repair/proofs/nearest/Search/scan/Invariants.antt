-- A bit less each turn: the number that the bits make up falls.
use Rattle.repair.proofs.nearest.Search.scan.Given as goal

abbrev pub invariant-loop-m : goal.invariant-loop-m
invariant-loop-m l = Unit

abbrev pub decreases-loop-m : goal.decreases-loop-m
decreases-loop-m l = l.m
