-- Along each axis the coordinate is clamped.
use native.Mathlib.Omega.{arith}
use Rattle.matching.specs.Definitions.Rows.{across, upward}
use Rattle.boxes.specs.Boxes.{west, east, south, north}
use Rattle.boxes.proofs.Laws.Places.{held}
use Rattle.boxes.proofs.Laws.Boxes.{nearest}
use Rattle.boxes.proofs.nearest.Goals as goal

pub returns : goal.returns
returns c =
    let b = c.args.b in
    let p = c.args.p in
    let x = simp (held (west b) (omega arith), held (east b) (omega arith), held (across p) (omega arith)) at c.clamp.ensures in
    let y = simp (held (south b) (omega arith), held (north b) (omega arith), held (upward p) (omega arith)) at c.clamp-2.ensures in
    simp (held, c.clamp.type_inv, c.clamp-2.type_inv) (nearest _ _ _ _ x y)
