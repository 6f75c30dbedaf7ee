-- Pairs of rows of two sides, each with its own columns.
use Rattle.std.specs.Prelude.{ℕ, get_or}
use Rattle.matching.specs.Definitions.Rows.{gap}
use Rattle.stability.specs.declared.rows.Rows.{Rows}
use Rattle.stability.specs.Ranges.{RowOf}
use Rattle.stability.specs.Blocking.{Blocks}

-- No pair of a row of p and a row of q blocks.
abbrev pub StableSides : Rows → Rows → Type 0
StableSides p q =
    (i j : ℕ) → RowOf p.range i → RowOf q.range j
    → ¬ Blocks (gap p.at.now i q.at.now j) (get_or p.ns.now i 0) (get_or p.limits.now i 0) (get_or q.ns.now j 0) (get_or q.limits.now j 0)
