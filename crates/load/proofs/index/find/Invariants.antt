-- The walk from here on is the whole walk.
use Rattle.std.proofs.Common.{◌-◌}
use Rattle.matching.specs.Definitions.Sizes.{node_rows}
use Rattle.load.specs.Laws.LookUp.{Walking}
use Rattle.load.proofs.index.find.Given as goal

abbrev pub invariant-loop : goal.invariant-loop
invariant-loop l = Walking (record { from = l.r.from; to = l.r.to }) l.ns l.heads l.next l.number (node_rows - l.counter) l.i
