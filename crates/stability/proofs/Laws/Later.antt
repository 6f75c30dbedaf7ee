-- Rows that have no later limit than before do not come to block. Assumes nothing.
use Prim.Native.Nat.{ℕ}
use mathlib.Core.Path.{◌≡◌, ◌∙◌}
use mathlib.Core.List.{List}
use native.Mathlib.Omega.{arith}
use lib.IntN.{ℤ}
use lib.ListN.{length, get_or}
use Rattle.matching.specs.declared.Range.{Range}
use Rattle.matching.specs.Definitions.Rows.{Sorts, spans_of}
use Rattle.matching.specs.declared.Master.TheVariants.{A as master_a, B as master_b}
use Rattle.matching.specs.Definitions.Sizes.{set_rows}
use Rattle.matching.proofs.Laws.Sets.{gap_swap}
use Rattle.stability.specs.Ranges.{RowOf, OfSorts, Filled}
use Rattle.stability.specs.Blocking.{Blocking, Stable}
use Rattle.stability.specs.Later.{Passed, kept, stable, StillStable}
use Rattle.stability.specs.Barred.{Barred}
use Rattle.stability.proofs.Laws.Ranges.{of_sorts}

module _ (ns : List ℕ) (at : List (List ℤ)) where
  -- A pair blocks seen from either row.
  swap : (L : List ℕ) (i j : ℕ) → Blocking ns at L L i j → Blocking ns at L L j i
  swap L i j b = (omega (arith, b.1, gap_swap at i at j), omega (arith, b.0, gap_swap at i at j))

  module _ (old new : List ℕ) where
    -- A pair of rows of which neither has a later limit.
    kept_stable : (i j : ℕ) → Passed ns at old new i j → Passed ns at old new j i → ¬ Blocking ns at old old i j → ¬ Blocking ns at new new i j
    kept_stable i j (stable h) q s = h
    kept_stable i j (kept h) (stable g) s = λ b. g (swap new i j b)
    kept_stable i j (kept h) (kept g) s = λ b. s (omega (arith, b.0), omega (arith, b.1))

    module _ (p q : Range) where
      -- A pass over the rows of each.
      pub still_both : ((i j : ℕ) → RowOf p i → RowOf q j → Passed ns at old new i j) → ((j i : ℕ) → RowOf q j → RowOf p i → Passed ns at old new j i) → StillStable ns at old new p q
      still_both pass back i j h g = kept_stable i j (pass i j h g) (back j i g h)

      -- With the ranges changed over.
      pub still_swap : StillStable ns at old new p q → StillStable ns at old new q p
      still_swap h j i g f s b = h i j f g (λ c. s (swap old i j c)) (swap new j i b)

    -- The new limits bar every pair of a sort,
    pub still_stable : (S : Sorts) → Barred ns at S old → ((t : ℕ) → StillStable ns at old new (spans_of S t).a (spans_of S t).b) → (t : ℕ) → Stable ns at new new (spans_of S t).a (spans_of S t).b
    still_stable S b h t i j f g = h t i j f g (b.stable t i j f g)

    -- and so do limits to which all rows' are copied.
    pub barred_copied : (S : Sorts) (K : List ℕ) → length old ≡ set_rows → ((t : ℕ) → Stable ns at new new (spans_of S t).a (spans_of S t).b)
        → Filled (OfSorts S) (λ i _ l. l ≡ get_or new i 0) old K → Barred ns at S K
    barred_copied S K r h a = record {
      room = a.room ∙ r;
      stable = λ t i j f g. rw (a.rows i (of_sorts S t master_a i f), a.rows j (of_sorts S t master_b j g)) (h t i j f g);
    }
