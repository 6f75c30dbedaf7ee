-- The sign by its test.
use Rattle.std.proofs.Common.{◌∙◌, ap}
use lib.IntN.{nat_abs}
use mir.Syntax.{w16}
use mir.Facts.{to_z-of_z}
use Rattle.player.proofs.Laws.Text.{written_as}
use Rattle.nodes.specs.Laws.{position_minus, position_plus}
use Rattle.nodes.proofs.listing.put_position.Goals as goal

pub returns-then-z-lt0-clause-written : goal.returns-then-z-lt0-clause-written
returns-then-z-lt0-clause-written c =
    let x = c.args in
    let z = to_z-of_z {w = w16} c.ranges.z in
    written_as x.text.now _ _ _ x.at _ (position_minus x.z _ (rw z at c.if-z-lt0.true) (c.from-n.ensures ∙ c.unsigned_abs.ensures.value ∙ ap nat_abs z)) c.put_field.ensures.written

pub returns-clause-written : goal.returns-clause-written
returns-clause-written c =
    let x = c.args in
    let z = to_z-of_z {w = w16} c.ranges.z in
    written_as x.text.now _ _ _ x.at _ (position_plus x.z _ (rw z at c.if-z-lt0.false) (c.from-n.ensures ∙ c.unsigned_abs.ensures.value ∙ ap nat_abs z)) c.put_field-2.ensures.written
