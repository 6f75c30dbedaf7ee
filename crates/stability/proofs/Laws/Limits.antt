-- What links show by themselves, put together. Assumes nothing.
use mathlib.Core.Path.{sym, ◌∙◌}
use mathlib.Core.List.{List}
use Prim.Native.Nat.{ℕ}
use lib.IntN.{ℤ}
use lib.ListN.{get_or}
use Rattle.matching.specs.Definitions.Rows.{Sorts, spans_of, On}
use Rattle.matching.specs.declared.Master.{Master}
use Rattle.stability.specs.Ranges.{OfSorts, Filled}
use Rattle.stability.specs.Links.{Ordered, Took}
use Rattle.stability.specs.Limits.{Limit, full, spare, Limited, limited, unlimited, Held}
use Rattle.stability.proofs.Laws.Ranges.{of_sorts}

-- The limits of all rows are noted.
pub held : (ns : List ℕ) (at : List (List ℤ)) (cs : List ℕ) (S : Sorts) (L : List (List ℕ)) (n : ℕ) (P : List (List ℕ)) (taken last K : List ℕ)
    → Ordered L n → Took ns at cs S L P n taken last → Filled (OfSorts S) (λ i k l. Limit (get_or cs i 0) (get_or taken i 0) k l) last K → Held ns at cs S L n P K
held ns at cs S L n P taken last K o t a = record {
  room = a.room ∙ t.room.1;
  order = o;
  stands = t.stands;
  some = t.some;
  within = λ u m i h. rw (← (t.side m).sums u i h) (t.within i);
  limits = λ u m i h. one u m i h (a.rows i (of_sorts S u m i h));
}
  where
    one : (u : ℕ) (m : Master) (i : ℕ) → On (spans_of S u) m i → Limit (get_or cs i 0) (get_or taken i 0) (get_or last i 0) (get_or K i 0) → Limited ns at cs S L n m i (get_or K i 0)
    one u m i h (full e l) = limited (record { all = sym ((t.side m).sums u i h) ∙ e; keys = λ k z g. rw l ((t.side m).keys k z u i h g) })
    one u m i h (spare e) = unlimited e
