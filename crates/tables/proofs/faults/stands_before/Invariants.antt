-- No row ahead of row j has the number.
use Rattle.std.proofs.Common.{◌≡◌, false}
use Rattle.tables.specs.Definitions.Tables.{stands_before}
use Rattle.tables.proofs.faults.stands_before.Given as goal

abbrev pub invariant-loop-j : goal.invariant-loop-j
invariant-loop-j l = stands_before l.t l.j l.n ≡ false
