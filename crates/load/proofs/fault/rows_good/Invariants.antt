-- Every row passed is good.
use Rattle.std.proofs.Common.{ℕ, ◌*◌, ◌<◌, ◌≡◌, true}
use Rattle.tables.specs.Definitions.Sizes.{node_size}
use Rattle.tables.specs.Definitions.Tables.{fields_good}
use Rattle.load.proofs.fault.rows_good.Given as goal

abbrev pub invariant-loop-k : goal.invariant-loop-k
invariant-loop-k l = (j : ℕ) → j < l.k → fields_good l.t (node_size * j) ≡ true
