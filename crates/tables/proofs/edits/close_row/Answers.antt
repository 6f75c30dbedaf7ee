use Rattle.std.proofs.Common.{◌∙◌}
use Rattle.tables.proofs.Laws.Puts.{row_closed}
use Rattle.tables.proofs.edits.close_row.Goals as goal

pub returns : goal.returns
returns c =
    let q = c.requires in
    row_closed c.args.t.now c.args.k q.0 q.1 _ _ (c.copy_within.ensures.len ∙ q.0) c.copy_within.ensures.after (c.fill.ensures.after (λ y e. e))
