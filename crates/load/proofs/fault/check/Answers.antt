-- What is decoded has the table's numbers.
use borrow.Author.Rules.{rules}
use Rattle.load.specs.Laws.Loaded.{whole_named}
use Rattle.load.proofs.fault.check.Goals as goal

pub fault-requires : goal.fault-requires
fault-requires c = (search rules, whole_named c.table-r.ensures, record { slots = search rules; rows = search rules })
