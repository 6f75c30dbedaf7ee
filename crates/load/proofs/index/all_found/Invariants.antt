-- Every row passed is found by its number.
use Rattle.std.proofs.Common.{ℕ, ◌≤◌, ◌<◌, ◌≡◌, get_or}
use Rattle.load.specs.Index.{look_up}
use Rattle.load.proofs.index.all_found.Given as goal

abbrev pub invariant-loop-i : goal.invariant-loop-i
invariant-loop-i l = (k : ℕ) → l.fn.r.from ≤ k → k < l.i → look_up l.w l.ns l.heads l.next (get_or l.ns k 0) ≡ k
