-- Links that a check shows to be the set's, or joined ones.
use native.Mathlib.Omega.{arith}
use mathlib.Core.Path.{sym, ◌∙◌}
use Rattle.verdicts.specs.Laws.Lists.{count, listed, in_slice}
use Rattle.verdicts.proofs.list.settle.Goals as goal

pub returns : goal.returns
returns c =
    let x = c.args in
    let p = c.requires in
    let links = sym (in_slice x.links.now _ (omega (arith, c.if-n-le-LINKS.true, p.room))) ∙ c.verify.ensures.0 c.if-verify.true in
    (listed _ _ _ c.if-n-le-LINKS.true p.room links, count _ _ _ c.if-n-le-LINKS.true p.room links)

pub returns-2 : goal.returns-2
returns-2 c =
    let j = c.join.ensures in
    (listed _ _ _ j.most j.room j.links, count _ _ _ j.most j.room j.links)
