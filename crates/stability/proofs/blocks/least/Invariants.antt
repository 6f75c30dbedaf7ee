-- The least so far is at most the numbers of the rows before k.
use Rattle.std.proofs.Common.{ℕ, ◌≤◌, get_or}
use Rattle.stability.specs.Ranges.{RowOf}
use Rattle.stability.proofs.Laws.Ranges.{up_to}
use Rattle.stability.proofs.blocks.least.Given as goal

abbrev pub invariant-loop-k : goal.invariant-loop-k
invariant-loop-k l = (j : ℕ) → RowOf (up_to l.fn.r.from l.k) j → l.least ≤ get_or l.ns j 0
