-- One field, or two.
use native.Mathlib.Omega.{arith}
use Rattle.player.specs.Definitions.Text.{bytes, field, last_field}
use Rattle.player.proofs.Laws.Text.{written_then, written_as}
use Rattle.player.proofs.Laws.Lines.{load_done, load-refused}
use Rattle.player.proofs.lines.load_line.Goals as goal

pub returns-in-Ok-clause-written : goal.returns-in-Ok-clause-written
returns-in-Ok-clause-written c = let x = c.args in written_as x.text.now _ _ _ x.at _ (load_done x.answer _ c.in-Ok.ensures.done) c.put_last.ensures.written

pub returns-in-Err-clause-written : goal.returns-in-Err-clause-written
returns-in-Err-clause-written c =
    let f = c.put_field-middle in
    let g = c.put_last-in-Err in
    let r = c.in-Err.refused in
    let x = c.args in
    written_as x.text.now _ _ _ x.at _ (load-refused x.answer r.number r.value c.in-Err.ensures.refused)
    (written_then x.text.now (field (bytes "load refused ") r.number) (last_field (bytes " row ") r.value) _ _ x.at f.result g.result (omega arith) f.ensures.written g.ensures.written)
