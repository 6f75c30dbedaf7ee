-- The rows of the blocks before g block with no lane.
use Rattle.std.proofs.Common.{ℕ, ◌+◌, ◌*◌, ◌<◌}
use Rattle.matching.specs.Definitions.Sizes.{block_rows}
use Rattle.stability.specs.Ranges.{RowOf}
use Rattle.stability.specs.Lanes.{StableLanes}
use Rattle.stability.proofs.blocking.by_blocks.Given as goal

abbrev pub invariant-loop-g : goal.invariant-loop-g
invariant-loop-g l =
    let r = l.rows in
    (k : ℕ) → RowOf r.range k → k < r.range.from + l.g * block_rows → StableLanes r.ns.now r.at.now r.limits.now l.b.lanes.now k
