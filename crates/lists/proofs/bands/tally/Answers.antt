use Rattle.std.proofs.Common.{arith}
use Rattle.tables.specs.Laws.Bands.{tally_start, tally_most, tally_turn, tally_end}
use Rattle.lists.proofs.Laws.Rows.{rest_more, rest_end}
use Rattle.lists.proofs.Laws.Bands.{distances-length}
use Rattle.lists.proofs.bands.tally.Goals as goal

pub loop-link-init : goal.loop-link-init
loop-link-init c = rw c.requires.1 (tally_start _)

pub overflow_add-found : goal.overflow_add-found
overflow_add-found c =
    let x = c.args in
    omega (arith, tally_most c.loop-link.invariant c.band.result (omega arith), distances-length x.links.now)

pub loop-link-preserved : goal.loop-link-preserved
loop-link-preserved c =
    tally_turn (rw (rest_more c.args.links.now c.loop-link.link-index (omega arith)) at c.loop-link.invariant) c.band.ensures.0 (omega arith)

pub returns : goal.returns
returns c = tally_end (rw (rest_end c.args.links.now c.loop-link.link-index (omega arith)) at c.loop-link.invariant)
