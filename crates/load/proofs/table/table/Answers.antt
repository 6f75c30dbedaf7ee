-- The second sort leaves the rows of the first as they are, or has none.
use mathlib.Core.Path.{refl}
use native.Mathlib.Omega.{arith}
use Rattle.tables.specs.Definitions.Tables.{nodes_in}
use Rattle.load.specs.Laws.Loaded.{whole, first_room, second_room}
use Rattle.load.specs.Laws.Decode.{decoded_none}
use Rattle.load.specs.Laws.Parts.{parts_length}
use Rattle.load.proofs.table.table.Goals as goal

pub place-on-requires : goal.place-on-requires
place-on-requires c = let p = c.requires in (p.0, first_room c.args.from c.args.t.now p.1, p.2)

pub next_block-start-requires : goal.next_block-start-requires
next_block-start-requires c = let d = c.place-on.ensures in omega (arith, d.0, d.1.count, first_room c.args.from c.args.t.now c.requires.1)

pub overflow_sub-on : goal.overflow_sub-on
overflow_sub-on c = omega (arith, c.place-on.ensures.1.count)

pub returns-then-count-on : goal.returns-then-count-on
returns-then-count-on c =
    let d = c.place-on.ensures in
    whole d.0 d.1 c.next_block-start.ensures refl
    (decoded_none d.1.columns (omega (arith, c.if-count-on.true, c.count.ensures.0, d.1.count, parts_length (nodes_in c.args.t.now))))

pub place-off-requires : goal.place-off-requires
place-off-requires c = let d = c.place-on.ensures in (c.requires.0, second_room c.requires.1 d.0 d.1 c.next_block-start.ensures, d.1.columns)

pub returns : goal.returns
returns c = whole c.place-on.ensures.0 c.place-on.ensures.1 c.next_block-start.ensures c.place-off.ensures.0 c.place-off.ensures.1
