-- What its callees say.
use mathlib.Core.Path.{◌∙◌, ap}
use Rattle.matching.proofs.Laws.Widths.{back}
use Rattle.tables.specs.Definitions.Fields.{signed, position_at}
use Rattle.tables.proofs.fields.position_at.Goals as goal

pub returns : goal.returns
unfolding position_at
returns c = back c.position.result c.position.type_inv ∙ c.position.ensures ∙ ap signed c.two_at.ensures.0
