-- The set follows the table, and links that a check or a join gives are written.
use native.Mathlib.Omega.{arith}
use Rattle.lists.proofs.Laws.Rows.{links_taken}
use Rattle.lists.specs.Lists.{links_of}
use Rattle.tables.specs.Laws.ListRead.{bytes_known}
use Rattle.pairing.specs.Laws.Verdicts.{settled_joined}
use Rattle.pairing.specs.Laws.Edited.{revised}
use Rattle.pairing.proofs.edit.revise.Goals as goal

pub returns : goal.returns
returns c =
    let x = c.args in
    let f = c.requires.edited.1 in
    let e = c.new-set.ensures in
    let ba = bytes_known x.a.now c.type_inv.a in
    let bb = bytes_known x.b.now c.type_inv.b in
    let k = rw (e.0, e.1, e.2, e.3) at c.settle-n.ensures in
    let same = links_taken c.settle-n.new.links c.settle-n.result (omega (arith, k.0.most, k.0.room, k.1)) in
    revised x.a.now x.b.now x.list.now (links_of x.links.now) _ _ (settled_joined x.a.now x.b.now f ba bb c.update-sorts.ensures.0.rows k.0 k.1) _ _ (rw same at c.rewrite.ensures)
