-- The whole search is the search from here on.
use Rattle.std.proofs.Common.{◌≡◌, ◌-◌}
use Rattle.tables.specs.Definitions.Sizes.{node_rows}
use Rattle.tables.specs.Definitions.Rows.{first_from}
use Rattle.tables.specs.Definitions.Tables.{faulty, first_fault}
use Rattle.tables.proofs.faults.first_fault.Given as goal

abbrev pub invariant-loop-k : goal.invariant-loop-k
invariant-loop-k l = first_fault l.t ≡ first_from (faulty l.t) l.k (node_rows - l.k)
