-- A list that passes the check has all links; any other is compared.
use Rattle.std.specs.Prelude.{◌≤◌, length}
use mathlib.Core.Path.{sym, ◌∙◌}
use native.Mathlib.Omega.{arith}
use Rattle.std.proofs.lemmas.List.{length-take-le}
use Rattle.tables.specs.Laws.ListRead.{bytes_known}
use Rattle.verdicts.specs.Laws.Lists.{in_slice, listed, reviewed}
use Rattle.verdicts.proofs.list.review.Goals as goal

pub returns-then-finished : goal.returns-then-finished
returns-then-finished c =
    let x = c.args in
    let p = c.requires in
    let low : x.n ≤ length x.links.now = omega (arith, p.read.most, p.read.room) in
    let f = c.finished.ensures.0 c.if-finished.true in
    let links = sym (in_slice x.links.now x.n low) ∙ f.links in (
      reviewed _ _ _ p.read.most p.read.room links _ (bytes_known x.list.now c.type_inv.list) p.beside.size p.read (rw (length-take-le x.n x.links.now low) at f.zero),
      listed _ _ _ p.read.most p.read.room links,
      c.finished.ensures.1,
    )
