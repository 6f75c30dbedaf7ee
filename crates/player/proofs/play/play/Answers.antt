-- The edits, what is left over, the links.
use mathlib.Core.List.{◌++◌}
use native.Mathlib.Omega.{arith}
use lib.ListN.{length}
use Rattle.player.specs.Definitions.Transcript.{drawing, playable, edit_lines, left_line, link_lines}
use Rattle.player.proofs.Laws.Text.{written_then, written_as}
use Rattle.player.proofs.Laws.Play.{play_lines_lem}
use Rattle.player.proofs.play.play.Goals as goal

pub returns : goal.returns
returns c =
    let f = c.play_edits-played in
    let g = c.left_line-left in
    let h = c.link_lines in
    let x = c.args in
    let t = x.text.now in
    let d = drawing x.a.now x.b.now x.list.now in
    let es = x.edits.now in
    let E = edit_lines d es (playable (length es)) in
    let L = left_line (length es) in
    record {
      written =
          written_as t _ _ _ x.at h.result (play_lines_lem d es (drawing f.new.a f.new.b f.new.list) f.ensures.list_after)
          (written_then t (E ++ L) (link_lines f.new.list) _ _ x.at g.result h.result (omega arith)
          (written_then t E L _ _ x.at f.result g.result (omega arith) f.ensures.written g.ensures.written)
          h.ensures.written);
      upper_bound = omega arith;
    }
