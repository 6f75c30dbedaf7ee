-- Each edge goes as far as the position.
use native.Mathlib.Omega.{arith}
use Rattle.matching.specs.Definitions.Rows.{across, upward}
use Rattle.boxes.specs.Boxes.{west, east, south, north}
use Rattle.boxes.proofs.Laws.Places.{held}
use Rattle.boxes.proofs.Laws.Boxes.{grown}
use Rattle.boxes.proofs.grow.Goals as goal

pub returns : goal.returns
returns c =
    let b = c.args.b in
    let p = c.args.p in
    rw (held c.min.result c.min.type_inv, held c.max.result c.max.type_inv, held c.min-2.result c.min-2.type_inv, held c.max-2.result c.max-2.type_inv)
    (rw (c.min.ensures.value, c.max.ensures.value, c.min-2.ensures.value, c.max-2.ensures.value)
    (rw (held (west b) (omega arith), held (east b) (omega arith), held (south b) (omega arith), held (north b) (omega arith), held (across p) (omega arith), held (upward p) (omega arith))
    (grown b p)))
