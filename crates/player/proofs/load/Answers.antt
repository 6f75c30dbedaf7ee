-- The load line, and what follows it where the tables are accepted.
use native.Mathlib.Omega.{arith}
use Rattle.player.specs.Definitions.Lines.{load_line}
use Rattle.player.specs.Definitions.Transcript.{drawing, play_lines}
use Rattle.player.proofs.Laws.Text.{written_then, written_as}
use Rattle.player.proofs.Laws.Play.{load_stops, load_plays}
use Rattle.player.proofs.load.Goals as goal

pub returns-in-Err-clause-written : goal.returns-in-Err-clause-written
returns-in-Err-clause-written c =
    let p = c.pairing_pair-answer in
    let x = c.args in
    written_as x.text.now _ _ _ 0 _ (load_stops x.a.now x.b.now x.list.now x.edits.now p.new.list p.result p.ensures c.in-Err.ensures.refused.0) c.load_line-end.ensures.written

pub returns-in-Ok-clause-written : goal.returns-in-Ok-clause-written
returns-in-Ok-clause-written c =
    let p = c.pairing_pair-answer in
    let f = c.load_line-end in
    let g = c.play in
    let x = c.args in
    let l = p.new.list in
    written_as x.text.now _ _ _ 0 _ (load_plays x.a.now x.b.now x.list.now x.edits.now l p.result p.ensures c.in-Ok.ensures.done.0)
    (written_then x.text.now (load_line p.result) (play_lines (drawing x.a.now x.b.now l) x.edits.now) _ _ 0 f.result g.result (omega arith) f.ensures.written g.ensures.written)
