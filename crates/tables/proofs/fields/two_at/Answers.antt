use Rattle.std.proofs.Common.{arith}
use Rattle.tables.specs.Laws.Fields.{nat_two}
use Rattle.tables.proofs.fields.two_at.Goals as goal

pub returns : goal.returns
returns c = (omega (arith, nat_two c.args.s.now c.args.at, c.from.ensures, c.from_le_bytes.ensures), omega arith)
