use Rattle.std.proofs.Common.{sym, ◌∙◌, arith}
use Rattle.lists.proofs.Laws.Rows.{used_its, used_other, used_end}
use Rattle.lists.proofs.spare.spare.Goals.{then-number_in-number, else-number_in-number}
use Rattle.lists.proofs.spare.spare.Goals as goal

pub loop-link-preserved : goal.loop-link-preserved
loop-link-preserved c =
    let x = c.args in
    let i = c.loop-link.link-index in
    elim c.if-number_in-number.branch [
      | then-number_in-number w ↦ omega (arith, used_its x.links.now x.master x.number i (omega arith) (sym c.number_in.ensures ∙ w.if-number_in-number.true))
      | else-number_in-number w ↦ omega (arith, used_other x.links.now x.master x.number i (omega arith) (λ e. w.if-number_in-number.false (c.number_in.ensures ∙ e)))
    ]

pub returns : goal.returns
returns c =
    let x = c.args in
    omega (arith, used_end x.links.now x.master x.number c.loop-link.link-index (omega arith))
