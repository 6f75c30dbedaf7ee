-- Too short, or the nodes and the answer, one behind the other.
use Prim.Native.Nat.{◌-◌}
use native.Mathlib.Omega.{arith}
use lib.ListN.{length, take, drop}
use Rattle.tables.specs.Definitions.Sizes.{number_size}
use Rattle.tables.specs.Definitions.Rows.{flat}
use Rattle.tables.proofs.Laws.Puts.{part_from}
use Rattle.player.proofs.Laws.Text.{written_then, written_as}
use Rattle.reader.specs.Definitions.{numbered, readable}
use Rattle.nodes.specs.Definitions.{node_line, answer_line}
use Rattle.nodes.specs.Laws.{listing_short, listing_whole}
use Rattle.nodes.proofs.listing.list.Goals as goal

pub returns-then-input-lt-NUMBER : goal.returns-then-input-lt-NUMBER
returns-then-input-lt-NUMBER c =
    let f = c.put_word in
    let x = c.args in
    record {
      written = written_as x.text.now _ _ _ 0 f.result (listing_short x.input.now c.if-input-lt-NUMBER.true) f.ensures;
      upper_bound = omega arith;
    }

pub returns : goal.returns
returns c =
    let f = c.put_nodes-end in
    let g = c.put_answer in
    let n = c.number_at-n in
    let x = c.args in
    let t = take (length x.input.now - number_size) (drop number_size x.input.now) in
    record {
      written =
          written_as x.text.now _ _ _ 0 g.result (listing_whole x.input.now t n.result c.if-input-lt-NUMBER.false (part_from number_size x.input.now) n.ensures)
          (written_then x.text.now (flat node_line (readable t)) (answer_line (numbered n.result (readable t))) _ _ 0 f.result g.result (omega arith) f.ensures.written g.ensures.written);
      upper_bound = omega arith;
    }
