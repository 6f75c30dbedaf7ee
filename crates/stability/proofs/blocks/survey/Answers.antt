-- What is stored in one place leaves the blocks before it as they are.
use native.Mathlib.Omega.{arith}
use lib.ListN.{length-set}
use Rattle.stability.specs.Ranges.{part}
use Rattle.stability.specs.Blocks.{Encloses, none}
use Rattle.stability.proofs.Laws.Blocks.{stored_below}
use Rattle.stability.proofs.blocks.survey.Goals as goal

pub loop-g-preserved : goal.loop-g-preserved
loop-g-preserved c =
    let r = c.args.rows in
    let e = c.part.ensures in
    let l = c.loop-g.invariant in (
      simp length-set l.0,
      stored_below none (λ k b. Encloses r.ns.now r.at.now r.limits.now (part r.range k) b) _ c.loop-g.g _ (omega (arith, c.blocks-g-end.ensures)) l.1
          (rw (e.columns.0, e.columns.1, e.columns.2, e.rows) at c.enclose.ensures),
    )
