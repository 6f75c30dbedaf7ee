-- The end of a line behind a field.
use native.Mathlib.Omega.{arith}
use Rattle.player.specs.Definitions.Text.{bytes, field, last_field}
use Rattle.player.proofs.Laws.Text.{written_then}
use Rattle.player.proofs.text.put_last.Goals as goal

pub returns : goal.returns
unfolding last_field
returns c =
    let f = c.put_field-end in
    let g = c.put_word in
    let x = c.args in
    record {
      written = written_then x.text.now (field x.word.now x.n) (bytes "\n") _ _ x.at f.result g.result (omega arith) f.ensures.written g.ensures;
      upper_bound = omega arith;
    }
