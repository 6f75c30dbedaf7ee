-- Each arm is that of its change.
use mathlib.Core.Path.{◌∙◌}
use Rattle.tables.specs.declared.edits.Change.TheVariants.{Arrival, Departure, Move, Capacity}
use Rattle.tables.specs.Laws.Changes.{both_taken, both_left, fields_change}
use Rattle.tables.proofs.edits.fields_right.Goals as goal

pub returns-then-positions_good : goal.returns-then-positions_good
returns-then-positions_good c =
    both_taken c.if-positions_good.true c.positions_good.ensures c.capacity_good.ensures ∙ fields_change Arrival _ c.requires.1 c.in-Arrival.is

pub returns-else-positions_good : goal.returns-else-positions_good
returns-else-positions_good c =
    both_left _ c.if-positions_good.false c.positions_good.ensures ∙ fields_change Arrival _ c.requires.1 c.in-Arrival.is

pub returns-then-positions_zero : goal.returns-then-positions_zero
returns-then-positions_zero c =
    both_taken c.if-positions_zero.true c.positions_zero.ensures c.capacity_zero.ensures ∙ fields_change Departure _ c.requires.1 c.in-Departure.is

pub returns-else-positions_zero : goal.returns-else-positions_zero
returns-else-positions_zero c =
    both_left _ c.if-positions_zero.false c.positions_zero.ensures ∙ fields_change Departure _ c.requires.1 c.in-Departure.is

pub returns-then-positions_good-2 : goal.returns-then-positions_good-2
returns-then-positions_good-2 c =
    both_taken c.if-positions_good-2.true c.positions_good-in-Move.ensures c.capacity_zero-then-positions_good-2.ensures ∙ fields_change Move _ c.requires.1 c.in-Move.is

pub returns-else-positions_good-2 : goal.returns-else-positions_good-2
returns-else-positions_good-2 c =
    both_left _ c.if-positions_good-2.false c.positions_good-in-Move.ensures ∙ fields_change Move _ c.requires.1 c.in-Move.is

pub returns-then-positions_zero-2 : goal.returns-then-positions_zero-2
returns-then-positions_zero-2 c =
    both_taken c.if-positions_zero-2.true c.positions_zero-in-Capacity.ensures c.capacity_good-then-positions_zero-2.ensures ∙ fields_change Capacity _ c.requires.1 c.in-Capacity.is

pub returns-else-positions_zero-2 : goal.returns-else-positions_zero-2
returns-else-positions_zero-2 c =
    both_left _ c.if-positions_zero-2.false c.positions_zero-in-Capacity.ensures ∙ fields_change Capacity _ c.requires.1 c.in-Capacity.is
