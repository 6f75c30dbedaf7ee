-- The order that the code computes is the order on pairs.
use mathlib.Core.Path.{sym, ◌∙◌}
use Rattle.matching.proofs.Laws.Order.{earlier_before}
use Rattle.stability.proofs.links.ahead.Goals as goal

pub returns : goal.returns
returns c = λ h. earlier_before _ _ (sym c.is_earlier.ensures ∙ h)
