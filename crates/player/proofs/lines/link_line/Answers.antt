-- Four fields, one behind the other.
use mathlib.Core.List.{◌++◌}
use native.Mathlib.Omega.{arith}
use Rattle.matching.specs.Definitions.Rows.{link_of}
use Rattle.player.specs.Definitions.Text.{bytes, field, last_field}
use Rattle.player.specs.Definitions.Lines.{link_line}
use Rattle.player.proofs.Laws.Text.{written_then}
use Rattle.player.proofs.lines.link_line.Goals as goal

pub returns : goal.returns
unfolding link_line
returns c =
    let f = c.put_field-first in
    let g = c.put_field-second in
    let h = c.put_field-third in
    let i = c.put_last in
    let x = c.args in
    let t = x.text.now in
    let l = link_of x.link in
    let A = field (bytes "link ") l.a in
    let B = field (bytes " ") l.b in
    let D = field (bytes " ") l.distance in
    record {
      written =
          written_then t (A ++ B ++ D) (last_field (bytes " ") l.amount) _ _ x.at h.result i.result (omega arith)
          (written_then t (A ++ B) D _ _ x.at g.result h.result (omega arith)
          (written_then t A B _ _ x.at f.result g.result (omega arith) f.ensures.written g.ensures.written)
          h.ensures.written)
          i.ensures.written;
      upper_bound = omega arith;
    }
