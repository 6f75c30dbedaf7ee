-- The rows before i are written.
use Rattle.std.proofs.Common.{get_or}
use Rattle.stability.specs.Ranges.{RowOf, Filled}
use Rattle.stability.specs.Later.{Later}
use Rattle.stability.proofs.Laws.Ranges.{up_to}
use Rattle.stability.proofs.later.only_later.Given as goal

abbrev pub invariant-loop-i : goal.invariant-loop-i
invariant-loop-i l = Filled (RowOf (up_to l.fn.r.from l.i)) (λ i _ k. Later (get_or l.old i 0) (get_or l.new i 0) k) l.initial.e l.e
