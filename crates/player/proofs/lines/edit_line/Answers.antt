-- The count, and what the answer says.
use mathlib.Core.List.{◌++◌}
use native.Mathlib.Omega.{arith}
use Rattle.player.specs.Definitions.Text.{bytes, field, last_field}
use Rattle.player.proofs.Laws.Text.{written_then, written_as}
use Rattle.player.proofs.Laws.Lines.{edit_done, edit_refused}
use Rattle.player.proofs.lines.edit_line.Goals as goal

pub returns-in-Ok-clause-written : goal.returns-in-Ok-clause-written
returns-in-Ok-clause-written c =
    let f = c.put_field-first in
    let g = c.put_field-second in
    let h = c.put_last in
    let x = c.args in
    let kept = field (bytes " kept ") c.in-Ok.kept in
    let links = last_field (bytes " links ") x.links in
    written_as x.text.now _ _ _ x.at _ (edit_done x.answer _ c.in-Ok.ensures.done x.n x.links)
    (written_then x.text.now (field (bytes "edit ") x.n) (kept ++ links) _ _ x.at f.result h.result (omega arith) f.ensures.written
    (written_then _ kept links _ _ f.result g.result h.result (omega arith) g.ensures.written h.ensures.written))

pub returns-in-Err-clause-written : goal.returns-in-Err-clause-written
returns-in-Err-clause-written c =
    let f = c.put_field-first in
    let g = c.put_last-in-Err in
    let r = c.in-Err.refused in
    let x = c.args in
    written_as x.text.now _ _ _ x.at _ (edit_refused x.answer r.number r.value c.in-Err.ensures.refused x.n x.links)
    (written_then x.text.now (field (bytes "edit ") x.n) (last_field (bytes " refused ") r.number) _ _ x.at f.result g.result (omega arith) f.ensures.written g.ensures.written)
