-- What follows from the claim: the way does not matter.
use Rattle.std.specs.Prelude.{◌≡◌}
use Rattle.std.proofs.Common.{sym, ◌∙◌, ap}
use Rattle.matching.specs.Definitions.Lists.{Reordered}
use Rattle.matching.specs.declared.Master.TheVariants.{A as master_a, B as master_b}
use Rattle.matching.proofs.Theorems.RowOrder.{join_reordered}
use Rattle.tables.specs.Definitions.Lists.{list_bytes}
use Rattle.contract.specs.Definitions.Buffers.{Buffers, paired, Good, drawn, buffers}
use Rattle.contract.specs.Definitions.History.{Past, held, paper_of}
use Rattle.contract.proofs.Theorems.Claim.{claim_end, first_good, drawn_good}

held_paper : (p : Past) → held p ≡ buffers (paper_of p)
held_paper p = claim_end p.a p.b p.accepted_a p.accepted_b p.calls p.stands

paper_good : (p : Past) → Good (paper_of p)
paper_good p = drawn_good p.calls (drawn (paired p.a p.b)) p.stands (first_good p.a p.b p.accepted_a p.accepted_b)

-- Histories that end with the same nodes in the same order end with the same bytes,
pub same_bytes : (p q : Past) → paper_of p ≡ paper_of q → held p ≡ held q
same_bytes p q e = held_paper p ∙ ap buffers e ∙ sym (held_paper q)

-- and in any order with the same list.
pub same_list : (p q : Past) → Reordered (paper_of p).a (paper_of q).a → Reordered (paper_of p).b (paper_of q).b → (held p).list ≡ (held q).list
unfolding buffers
same_list p q r s =
    ap (λ (h : Buffers). h.list) (held_paper p)
    ∙ ap list_bytes (join_reordered r s (paper_good p master_a).unique (paper_good p master_b).unique)
    ∙ sym (ap (λ (h : Buffers). h.list) (held_paper q))
