-- Where the low end is not past the position, by the test of the high one.
use Rattle.boxes.proofs.Laws.Places.{held, clamped}
use Rattle.boxes.proofs.clamp.Goals as goal

pub returns-else-p-low : goal.returns-else-p-low
returns-else-p-low c =
    let r = c.ranges in
    rw (held c.min.result c.min.type_inv, c.min.ensures.value, held c.args.p r.p.sfits, held c.args.high r.high.sfits) (clamped c.args.p c.args.low c.args.high)
