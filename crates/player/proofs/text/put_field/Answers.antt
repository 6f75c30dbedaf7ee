-- A number behind a word.
use native.Mathlib.Omega.{arith}
use Rattle.player.specs.Definitions.Text.{decimal, field}
use Rattle.player.proofs.Laws.Text.{decimal_short, written_then}
use Rattle.player.proofs.text.put_field.Goals as goal

pub put_decimal-requires : goal.put_decimal-requires
put_decimal-requires c = omega (arith, decimal_short c.args.n c.ranges.n.fits)

pub returns : goal.returns
unfolding field
returns c =
    let f = c.put_word-middle in
    let g = c.put_decimal in
    let x = c.args in
    record {
      written = written_then x.text.now x.word.now (decimal x.n) _ _ x.at f.result g.result (omega arith) f.ensures g.ensures;
      upper_bound = omega (arith, decimal_short x.n c.ranges.n.fits);
    }
