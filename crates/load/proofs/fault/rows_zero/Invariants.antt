-- Every row passed is zero.
use Rattle.std.proofs.Common.{ℕ, ◌<◌, ◌≤◌}
use Rattle.load.specs.Fault.{ZeroRow}
use Rattle.load.proofs.fault.rows_zero.Given as goal

abbrev pub invariant-loop-k : goal.invariant-loop-k
invariant-loop-k l = (j : ℕ) → l.n ≤ j → j < l.k → ZeroRow l.t j
