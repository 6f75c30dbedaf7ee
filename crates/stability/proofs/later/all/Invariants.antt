-- The rows before i have a later limit, or take no pair.
use Rattle.std.proofs.Common.{ℕ, get_or}
use Rattle.stability.specs.Ranges.{RowOf}
use Rattle.stability.specs.Later.{Moved}
use Rattle.stability.proofs.Laws.Ranges.{up_to}
use Rattle.stability.proofs.later.all.Given as goal

abbrev pub invariant-loop-i : goal.invariant-loop-i
invariant-loop-i l = (k : ℕ) → RowOf (up_to l.fn.r.from l.i) k → Moved (get_or l.old k 0) (get_or l.new k 0)
