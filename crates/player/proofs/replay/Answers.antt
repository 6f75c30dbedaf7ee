-- Too short, or two tables and what follows them.
use mathlib.Core.Path.{sym, ◌∙◌, ap}
use native.Mathlib.Omega.{arith}
use lib.ListN.{replicate}
use lib.Seq.{length-take-le}
use Rattle.tables.specs.Definitions.Sizes.{table_size, list_size}
use Rattle.player.proofs.Laws.Text.{written_as}
use Rattle.player.proofs.Laws.Play.{input_short, input_whole}
use Rattle.tables.proofs.Laws.Puts.{part_from}
use Rattle.player.specs.Definitions.Transcript.{tables_size, load_lines}
use Rattle.player.proofs.replay.Goals as goal

pub returns-then-input-lt-TABLES-clause-written : goal.returns-then-input-lt-TABLES-clause-written
returns-then-input-lt-TABLES-clause-written c = let x = c.args in written_as x.text.now _ _ _ 0 _ (input_short x.input.now c.if-input-lt-TABLES.true) c.put_word.ensures

pub slice_bounds-copy_from_slice-end-2 : goal.slice_bounds-copy_from_slice-end-2
slice_bounds-copy_from_slice-end-2 c =
    let x = c.args in
    sym (length-take-le table_size x.input.now (omega (arith, c.if-input-lt-TABLES.false)))

pub copy_from_slice-requires : goal.copy_from_slice-requires
copy_from_slice-requires c =
    let x = c.args in
    omega (arith, length-take-le table_size x.input.now (omega (arith, c.if-input-lt-TABLES.false)))

pub returns-clause-written : goal.returns-clause-written
returns-clause-written c =
    let p = c.copy_from_slice in
    let q = c.copy_from_slice-2 in
    let x = c.args in
    let i = x.input.now in
    written_as x.text.now _ _ _ 0 _
    (ap (load_lines p.new.self q.new.self (replicate list_size 0)) (part_from tables_size i)
    ∙ input_whole i p.new.self q.new.self c.if-input-lt-TABLES.false p.ensures.after q.ensures.after)
    c.load.ensures.written
