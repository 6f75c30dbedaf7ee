use Rattle.std.proofs.Common.{sym, ◌∙◌, arith}
use Rattle.tables.specs.Laws.Find.{counts_start, counts_end, counts_full, counts_more}
use Rattle.tables.proofs.find.count.Goals as goal

pub loop-k-init : goal.loop-k-init
loop-k-init c = counts_start _

pub returns-then-row_number-eq0 : goal.returns-then-row_number-eq0
returns-then-row_number-eq0 c = (counts_end _ _ c.loop-k.invariant (omega arith) (sym c.row_number.ensures ∙ c.if-row_number-eq0.true), omega arith)

pub loop-k-preserved : goal.loop-k-preserved
loop-k-preserved c = counts_more _ _ c.loop-k.invariant (omega arith) (λ e. c.if-row_number-eq0.false (c.row_number.ensures ∙ e))

pub returns : goal.returns
returns c = (omega (arith, counts_full _ _ c.loop-k.invariant (omega arith)), omega arith)
