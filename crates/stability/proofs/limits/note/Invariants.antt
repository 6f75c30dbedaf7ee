-- The rows before i are written.
use Rattle.std.proofs.Common.{get_or}
use Rattle.stability.specs.Ranges.{RowOf, Filled}
use Rattle.stability.specs.Limits.{Limit}
use Rattle.stability.proofs.Laws.Ranges.{up_to}
use Rattle.stability.proofs.limits.note.Given as goal

abbrev pub invariant-loop-i : goal.invariant-loop-i
invariant-loop-i l = Filled (RowOf (up_to l.fn.r.from l.i)) (λ i k m. Limit (get_or l.cs i 0) (get_or l.taken i 0) k m) l.initial.last l.last
