-- No row passed has the number.
use Rattle.std.proofs.Common.{ℕ, ◌≤◌, ◌<◌, ◌≡◌, get_or}
use Rattle.update.proofs.rows.find.Given as goal

abbrev pub invariant-loop-k : goal.invariant-loop-k
invariant-loop-k l = (j : ℕ) → l.fn.r.from ≤ j → j < l.k → get_or l.ns j 0 ≡ l.z → ⊥
