-- The edited master's rows are brought in line, and the other's stay.
use Rattle.std.proofs.Common.{sym, ◌∙◌}
use Rattle.matching.specs.declared.Master.TheVariants.{A as master_a, B as master_b}
use Rattle.update.proofs.Laws.Update.{names_a, names_b, outdated, updated}
use Rattle.update.proofs.update.Goals as goal

pub update_node-r-requires : goal.update_node-r-requires
update_node-r-requires c = let p = c.requires in let n = c.number_of-z in outdated p master_a (names_a p (sym c.master_of.ensures ∙ c.if-master_of-eq0.true)) n.result n.ensures

pub returns-then-master_of-eq0 : goal.returns-then-master_of-eq0
returns-then-master_of-eq0 c = let p = c.requires in let d = c.update_node-r.ensures in (updated p master_a (names_a p (sym c.master_of.ensures ∙ c.if-master_of-eq0.true)) d.0, d.1)

pub update_node-r-requires-2 : goal.update_node-r-requires-2
update_node-r-requires-2 c = let p = c.requires in let n = c.number_of-z in outdated p master_b (names_b p (λ h. c.if-master_of-eq0.false (c.master_of.ensures ∙ h))) n.result n.ensures

pub returns : goal.returns
returns c = let p = c.requires in let d = c.update_node-r-2.ensures in (updated p master_b (names_b p (λ h. c.if-master_of-eq0.false (c.master_of.ensures ∙ h))) d.0, d.1)
