-- The four ways in which a node can be in the table and in the range.
use Rattle.std.proofs.Common.{refl}
use native.Mathlib.Omega.{arith}
use Rattle.update.proofs.Laws.Node.{node_written, node_added, node_removed, node_missing}
use Rattle.update.proofs.node.update_sort.Goals as goal

pub returns-in-Some-Some : goal.returns-in-Some-Some
returns-in-Some-Some c = let p = c.in-Some-Some in (node_written c.requires p.ensures'.0 p.ensures c.store.ensures refl p.ensures'.1, refl)

pub returns-in-Some-None : goal.returns-in-Some-None
returns-in-Some-None c = let p = c.in-Some-None in (node_added c.requires p.ensures' p.ensures c.store-in-Some-None.ensures refl (omega arith), refl)

pub returns-in-None-Some : goal.returns-in-None-Some
returns-in-None-Some c =
    let p = c.in-None-Some in
    let d = c.fill.ensures in
    (node_removed c.requires p.ensures.0 _ (rw p.is-0 at c.row_in.ensures) p.ensures.1 (omega (arith, p.ensures.1)) d.0 d.1, c.redirect.ensures)

pub returns-in-None-None : goal.returns-in-None-None
returns-in-None-None c = let p = c.in-None-None in (node_missing c.requires (rw p.is-1 at c.find.ensures) (rw p.is-0 at c.row_in.ensures) (omega arith), refl)
