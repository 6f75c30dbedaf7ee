-- The place lets the change be applied.
use Rattle.verdicts.specs.Laws.Edit.{place_applies}
use Rattle.verdicts.proofs.perform.change_table.Goals as goal

pub apply-requires : goal.apply-requires
apply-requires c =
    place_applies c.args.edit.now c.args.t.now c.args.change c.requires.2 _ _ c.count-nodes.ensures (rw c.number_of-number.ensures at c.row_of.ensures) _ c.in_ok-row.ensures.0 c.in_ok-row.ensures.1 c.requires.1 c.requires.0
