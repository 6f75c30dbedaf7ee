-- What its callees say.
use mathlib.Core.Path.{◌∙◌, ap}
use Rattle.matching.proofs.Laws.Widths.{back}
use Rattle.tables.specs.Definitions.Tables.{position_good}
use Rattle.tables.proofs.rows.position_good_at.Goals as goal

pub returns : goal.returns
returns c = c.position_good.ensures ∙ ap position_good (back c.position_at.result c.position_at.type_inv ∙ c.position_at.ensures)
