-- The call, and its line.
use native.Mathlib.Omega.{arith}
use Rattle.player.proofs.Laws.Text.{written_as}
use Rattle.player.proofs.Laws.Play.{turn_after, turn_line_lem}
use Rattle.player.proofs.play.play_edit.Goals as goal

pub returns : goal.returns
returns c =
    let p = c.pairing_edit-answer in
    let k = c.count_links-links in
    let f = c.edit_line in
    let x = c.args in
    record {
      written = written_as x.text.now _ _ _ x.at f.result (turn_line_lem x.a.now x.b.now x.list.now x.edit.now p.new.a p.new.b p.new.list p.result p.ensures x.n k.result k.ensures) f.ensures.written;
      list_after = turn_after x.a.now x.b.now x.list.now x.edit.now p.new.a p.new.b p.new.list p.result p.ensures;
      upper_bound = omega arith;
    }
