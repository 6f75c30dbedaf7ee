-- Five fields, one behind the other.
use mathlib.Core.List.{◌++◌}
use native.Mathlib.Omega.{arith}
use Rattle.matching.proofs.Laws.Widths.{back}
use Rattle.player.specs.Definitions.Text.{bytes, field, last_field}
use Rattle.player.proofs.Laws.Text.{written_then}
use Rattle.nodes.specs.Definitions.{position, entry}
use Rattle.nodes.proofs.listing.put_node.Goals as goal

pub returns : goal.returns
unfolding entry
returns c =
    let f = c.put_field-first in
    let g = c.put_position-second in
    let h = c.put_position-third in
    let k = c.put_field-fourth in
    let i = c.put_last in
    let x = c.args in
    let t = x.text.now in
    let N = field x.word.now x.v.number in
    let X = position x.v.x in
    let Y = position x.v.y in
    let C = field (bytes " ") x.v.capacity in
    record {
      written =
          written_then t (N ++ X ++ Y ++ C) (last_field (bytes " ") x.v.sort) _ _ x.at k.result i.result (omega arith)
          (written_then t (N ++ X ++ Y) C _ _ x.at h.result k.result (omega arith)
          (written_then t (N ++ X) Y _ _ x.at g.result h.result (omega arith)
          (written_then t N X _ _ x.at f.result g.result (omega arith) f.ensures.written (rw (back x.v.x (omega arith)) at g.ensures.written))
          (rw (back x.v.y (omega arith)) at h.ensures.written))
          k.ensures.written)
          i.ensures.written;
      upper_bound = omega arith;
    }
