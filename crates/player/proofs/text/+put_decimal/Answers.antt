-- The digits of a tenth of the number, and one more.
use Rattle.std.proofs.Common.{[], ◌∷◌, ◌/◌, ◌%◌, sym, arith}
use Rattle.player.specs.Definitions.Text.{digit, decimal}
use Rattle.player.proofs.Laws.Text.{length_one, length_more, decimal_one, decimal_more, written_byte, written_then, written_as}
use Rattle.player.proofs.text.+put_decimal.Goals as goal

pub bounds-text-at : goal.bounds-text-at
bounds-text-at t c = omega (arith, length_one c.args.n c.if-n-lt10.true)

pub returns-then-n-lt10 : goal.returns-then-n-lt10
returns-then-n-lt10 t c =
    let x = c.args in
    written_as x.text.now (digit x.n ∷ []) (decimal x.n) _ x.at _ (sym (decimal_one x.n c.if-n-lt10.true))
    (written_byte x.text.now x.at (digit x.n) (omega (arith, length_one x.n c.if-n-lt10.true)))

pub put_decimal-end-requires : goal.put_decimal-end-requires
put_decimal-end-requires t c = (omega arith, omega (arith, length_more c.args.n c.if-n-lt10.false))

pub bounds-text-end : goal.bounds-text-end
bounds-text-end t c = omega (arith, length_more c.args.n c.if-n-lt10.false)

pub overflow_add-result-2 : goal.overflow_add-result-2
overflow_add-result-2 t c = record { fits = omega (arith, length_more c.args.n c.if-n-lt10.false) }

pub returns : goal.returns
returns t c =
    let f = c.put_decimal-end in
    let x = c.args in
    let h = c.if-n-lt10.false in
    written_as x.text.now _ (decimal x.n) _ x.at _ (sym (decimal_more x.n h))
    (written_then x.text.now (decimal (x.n / 10)) (digit (x.n % 10) ∷ []) _ _ x.at f.result _ (omega (arith, length_more x.n h)) f.ensures
    (written_byte _ f.result (digit (x.n % 10)) (omega (arith, length_more x.n h))))
