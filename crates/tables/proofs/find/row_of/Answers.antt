use Rattle.std.proofs.Common.{sym, ◌∙◌, arith}
use Rattle.tables.specs.Laws.Find.{sought_start, sought_end, sought_here, sought_more, sought_full}
use Rattle.tables.proofs.find.row_of.Goals as goal

pub loop-k-init : goal.loop-k-init
loop-k-init c = sought_start _ _

pub returns-then-m-eq0 : goal.returns-then-m-eq0
returns-then-m-eq0 c = sought_end _ _ _ c.loop-k.invariant (omega arith) (sym c.row_number-m.ensures ∙ c.if-m-eq0.true)

pub returns-then-m-n : goal.returns-then-m-n
returns-then-m-n c =
    let e = c.row_number-m.ensures in
    sought_here _ _ _ c.loop-k.invariant (omega arith) (λ z. c.if-m-eq0.false (e ∙ z)) (sym e ∙ c.if-m-n.true)

pub loop-k-preserved : goal.loop-k-preserved
loop-k-preserved c =
    let e = c.row_number-m.ensures in
    sought_more _ _ _ c.loop-k.invariant (omega arith) (λ z. c.if-m-eq0.false (e ∙ z)) (λ z. c.if-m-n.false (e ∙ z))

pub returns : goal.returns
returns c = sought_full _ _ _ c.loop-k.invariant (omega arith)
