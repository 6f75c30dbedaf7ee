-- The sum of so few distances fits.
use Rattle.std.proofs.Common.{◌-◌, ◌*◌, ◌≤◌}
use Rattle.matching.specs.Definitions.Sizes.{number_range}
use Rattle.stability.proofs.spread.spread.Given as goal

abbrev pub invariant-loop-k : goal.invariant-loop-k
invariant-loop-k l = l.sum ≤ (l.k - l.fn.r.from) * number_range
