-- Both rows are in their ranges and have the link's numbers.
use mathlib.Core.Bool.{false≢true}
use mathlib.Core.Path.{sym, ◌∙◌}
use borrow.Author.Tests.{eqb-true}
use Rattle.matching.specs.Definitions.Rows.{gap}
use Rattle.stability.proofs.Laws.Ranges.{each_master}
use Rattle.stability.proofs.links.stands.Goals as goal
use Rattle.stability.proofs.links.stands.Goals.{then-has, else-has}

pub returns-then-has-2 : goal.returns-then-has-2
unfolding gap
returns-then-has-2 c =
    elim c.if-has.branch [
      | then-has w ↦
          let a = c.has.ensures w.if-has.true in
          let b = w.has-then-has.ensures (sym w.value-is ∙ c.if-has-2.true) in
          λ h. record { on = each_master _ a.0 b.0; named = each_master _ a.1 b.1; apart = eqb-true _ _ h ∙ c.apart.ensures }
      | else-has w ↦ absurd (false≢true (sym w.if-has.false ∙ sym w.value-is ∙ c.if-has-2.true))
    ]
