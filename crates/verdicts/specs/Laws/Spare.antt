-- Spare's answer, place by place.
use Rattle.std.specs.Prelude.{ℕ, ◌<◌, ◌≡◌, List}
use native.Mathlib.Omega.{arith}
use borrow.Author.Tests.{ne_eqb}
use Rattle.matching.specs.declared.Master.TheVariants.{A as master_a, B as master_b}
use Rattle.matching.specs.declared.Master.{Master as Side}
use Rattle.matching.specs.Definitions.Nodes.{each}
use Rattle.matching.specs.Definitions.Links.{Link}
use Rattle.tables.specs.Laws.Changes.{byte_of}
use Rattle.contract.specs.declared.Refusal.TheVariants.{Master}
use Rattle.contract.specs.Definitions.Answers.{refused}
use Rattle.verdicts.specs.Spare.{node_spare, master_spare}

-- The master's.
module _ (a b : List ℕ) (K : List Link) (m n : ℕ) where
  pub in_master : (s : Side) → byte_of s ≡ m → node_spare (each a b s) s K n ≡ master_spare a b K m n
  unfolding master_spare
  in_master master_a e = rw (← e)
  in_master master_b e = rw (← e)

  pub spare_none : 1 < m → refused Master 0 ≡ master_spare a b K m n
  unfolding master_spare
  spare_none h = let d : m ≡ 0 → ⊥ = λ z. omega arith in let e : m ≡ 1 → ⊥ = λ z. omega arith in rw (ne_eqb m 0 d, ne_eqb m 1 e)
