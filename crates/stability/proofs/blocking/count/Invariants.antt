-- A count of 0 says that the node blocks with no lane before k.
use Rattle.std.proofs.Common.{ℕ, ◌≤◌, ◌<◌, ◌≡◌, get_or, pos}
use Rattle.matching.specs.Definitions.Pairs.{squared_distance}
use Rattle.matching.specs.Definitions.Rows.{across, upward, key}
use Rattle.stability.specs.Blocking.{Blocks}
use Rattle.stability.proofs.blocking.count.Given as goal

abbrev pub invariant-loop-k : goal.invariant-loop-k
invariant-loop-k l =
    (l.count ≤ l.k) × (l.count ≡ 0 → (j : ℕ) → j < l.k
    → ¬ Blocks (squared_distance (across l.p) (upward l.p) (get_or l.lanes.x j (pos 0)) (get_or l.lanes.y j (pos 0))) l.n l.l
    (get_or l.lanes.numbers j 0) (key (get_or l.lanes.far j 0) (get_or l.lanes.high j 0)))
