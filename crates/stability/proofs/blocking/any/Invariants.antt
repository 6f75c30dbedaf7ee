-- The rows of q in the blocks before g block with no row of p.
use Rattle.std.proofs.Common.{ℕ, ◌+◌, ◌*◌, ◌<◌, get_or}
use Rattle.matching.specs.Definitions.Rows.{gap}
use Rattle.matching.specs.Definitions.Sizes.{block_rows}
use Rattle.stability.specs.Ranges.{RowOf}
use Rattle.stability.specs.Blocking.{Blocks}
use Rattle.stability.proofs.blocking.any.Given as goal

abbrev pub invariant-loop-g : goal.invariant-loop-g
invariant-loop-g l =
    let p = l.p in
    let q = l.q in
    (j : ℕ) → RowOf q.range j → j < q.range.from + l.g * block_rows → (i : ℕ) → RowOf p.range i
    → ¬ Blocks (gap p.at.now i q.at.now j) (get_or p.ns.now i 0) (get_or p.limits.now i 0) (get_or q.ns.now j 0) (get_or q.limits.now j 0)
