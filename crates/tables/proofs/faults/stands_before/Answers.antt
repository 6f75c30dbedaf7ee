use Rattle.std.proofs.Common.{refl, sym, ◌∙◌, arith}
use Rattle.tables.specs.Definitions.Tables.{stands_before}
use Rattle.tables.proofs.Laws.Faults.{stands_at, stands_more}
use Rattle.tables.proofs.faults.stands_before.Goals as goal

pub loop-j-init : goal.loop-j-init
unfolding stands_before
loop-j-init c = refl

pub returns-then-row_number-n : goal.returns-then-row_number-n
returns-then-row_number-n c = sym (stands_at _ _ c.loop-j.j _ (omega arith) (sym c.row_number.ensures ∙ c.if-row_number-n.true))

pub loop-j-preserved : goal.loop-j-preserved
loop-j-preserved c = stands_more _ _ _ c.loop-j.invariant (λ e. c.if-row_number-n.false (c.row_number.ensures ∙ e))
