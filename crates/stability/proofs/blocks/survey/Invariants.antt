-- The blocks before g enclose their rows.
use Rattle.std.proofs.Common.{ℕ, ◌<◌, ◌≡◌, length, get_or}
use Rattle.stability.specs.Sizes.{range_blocks}
use Rattle.stability.specs.Ranges.{part}
use Rattle.stability.specs.Blocks.{Encloses, none}
use Rattle.stability.proofs.blocks.survey.Given as goal

abbrev pub invariant-loop-g : goal.invariant-loop-g
invariant-loop-g l =
    let r = l.rows in
    (length l.blocks ≡ range_blocks) × ((k : ℕ) → k < l.g → Encloses r.ns.now r.at.now r.limits.now (part r.range k) (get_or l.blocks k none))
