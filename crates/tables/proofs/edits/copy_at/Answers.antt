use Rattle.tables.proofs.Laws.Puts.{part_put}
use Rattle.tables.proofs.edits.copy_at.Goals as goal

pub returns : goal.returns
returns c = rw c.copy_from_slice.ensures.after (part_put c.args.t.now c.args.from.now c.args.at)
