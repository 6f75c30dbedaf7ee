use Rattle.std.proofs.Common.{arith}
use Rattle.tables.specs.Laws.Fields.{nat_four}
use Rattle.tables.proofs.fields.four_at.Goals as goal

pub returns : goal.returns
returns c = omega (arith, nat_four c.args.s.now c.args.at, c.from_le_bytes.ensures)
