-- The greatest so far is at least the limits of the rows before k.
use Rattle.std.proofs.Common.{ℕ, ◌≤◌, get_or}
use Rattle.stability.specs.Ranges.{RowOf}
use Rattle.stability.proofs.Laws.Ranges.{up_to}
use Rattle.stability.proofs.blocks.limit.Given as goal

abbrev pub invariant-loop-k : goal.invariant-loop-k
invariant-loop-k l = (j : ℕ) → RowOf (up_to l.fn.r.from l.k) j → get_or l.limits j 0 ≤ l.limit
