-- Spare's answer once the list is known to be finished.
use Rattle.std.specs.Prelude.{ℕ, ◌-◌, cond, List, eqb, Ok}
use Rattle.matching.specs.declared.Master.TheVariants.{A as master_a, B as master_b}
use Rattle.matching.specs.declared.Master.{Master as Side}
use Rattle.matching.specs.Definitions.Nodes.{has, capacity_of}
use Rattle.matching.specs.Definitions.Links.{Link, used}
use Rattle.tables.specs.Definitions.Tables.{nodes_in}
use Rattle.contract.specs.Definitions.Answers.{Answer, refused}
use Rattle.contract.specs.declared.Refusal.TheVariants.{Master, Field, Number}

-- Of the node n in the table t of a master, beside the links K.
unfoldable pub node_spare : List ℕ → Side → List Link → ℕ → Answer
unfolding has capacity_of
node_spare t s K n = cond (eqb n 0) (refused Field 0) (cond (has n (nodes_in t)) (Ok (capacity_of (nodes_in t) n - used s K n)) (refused Number 0))

-- Of the master that the byte m names.
unfoldable pub master_spare : List ℕ → List ℕ → List Link → ℕ → ℕ → Answer
master_spare a b K m n = cond (eqb m 0) (node_spare a master_a K n) (cond (eqb m 1) (node_spare b master_b K n) (refused Master 0))
