-- A block that is passed over holds no row with which this one blocks.
use Rattle.stability.proofs.blocking.row.Goals as goal

pub returns-then-is_past : goal.returns-then-is_past
returns-then-is_past c = λ w k h. c.is_past.ensures c.if-is_past.true _ _ _ _ (c.args.b.enclosed.holds k h)
