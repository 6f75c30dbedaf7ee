-- Nodes stored so far, and those of the sort from here on, are the table's.
use Rattle.load.specs.Laws.Decode.{Progress}
use Rattle.load.proofs.decode.decode.Given as goal

abbrev pub invariant-loop-k : goal.invariant-loop-k
invariant-loop-k l = Progress l.t l.sort l.from l.i l.k l.initial.ns l.initial.at l.initial.cs l.ns l.at l.cs
