-- The verdict on the table, by cases.
use mathlib.Core.Path.{sym, ◌∙◌}
use Rattle.reader.proofs.Laws.{unsound_length, sound_none, sound_row, start_refused, start_first}
use Rattle.reader.proofs.start.Goals as goal

pub returns-then-t-ne-TABLE : goal.returns-then-t-ne-TABLE
returns-then-t-ne-TABLE c = start_refused _ (unsound_length _ c.if-t-ne-TABLE.true)

pub returns-in-None : goal.returns-in-None
returns-in-None c = start_first _ (sound_none _ c.if-t-ne-TABLE.false (sym c.check.ensures ∙ c.in-None.is))

pub returns-in-Some : goal.returns-in-Some
returns-in-Some c = start_refused _ (sound_row _ _ c.if-t-ne-TABLE.false (sym c.check.ensures ∙ c.in-Some.is))
