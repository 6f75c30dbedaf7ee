-- The second box reaches as near to the position in the first as any two positions of theirs are.
use native.Mathlib.Omega.{arith}
use Rattle.boxes.specs.Boxes.{west, south}
use Rattle.boxes.proofs.Laws.Places.{held}
use Rattle.boxes.proofs.Laws.Boxes.{apart}
use Rattle.boxes.proofs.gap.Goals as goal

pub returns : goal.returns
returns c =
    let near = simp (held (west c.args.c) (omega arith), held (south c.args.c) (omega arith)) at c.nearest.ensures in
    apart _ _ _ _ near c.clearance.ensures
