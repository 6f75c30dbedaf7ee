-- A row that is written, and the others. Assumes nothing.
use Prim.Native.Nat.{ℕ, ◌≤◌, ◌<◌}
use mathlib.Core.Path.{◌≡◌, sym, ◌∙◌, ap}
use mathlib.Core.List.{List}
use lib.IntN.{ℤ}
use lib.ListN.{length, get_or, set}
use lib.Seq.{get_or-set_same, get_or-set_other}
use Rattle.matching.specs.declared.Range.{Range}
use Rattle.matching.specs.declared.Spans.{Spans}
use Rattle.matching.specs.Definitions.Rows.{Sorts, across, upward, range, spans_of, On, node_in}
use Rattle.matching.specs.declared.Master.{Master}
use Rattle.stability.specs.Barred.{Patched, fresh, moved}
use Rattle.load.specs.Load.{Written}
use Rattle.load.specs.Laws.Decode.{written_apart}
use Rattle.update.specs.Rows.{Same}

-- A column in which place i was written.
module _ {X : Type 0} (l : List X) (i : ℕ) (x d : X) {l' : List X} (e : l' ≡ set l i x) where
  pub at_written : i < length l → get_or l' i d ≡ x
  at_written h = ap (λ (k : List X). get_or k i d) e ∙ get_or-set_same l i x d h

module _ {i n : ℕ} {p : List ℤ} {c : ℕ} {ns : List ℕ} {at : List (List ℤ)} {cs ns' : List ℕ} {at' : List (List ℤ)} {cs' : List ℕ}
    (w : Written i n p c ns at cs ns' at' cs') where
  pub written_same : (L : List ℕ) (l : ℕ) {L' : List ℕ} → L' ≡ set L i l → (k : ℕ) → (k ≡ i → ⊥) → Same k ns at cs L ns' at' cs' L'
  written_same L l e k h =
      let o = written_apart w k h in
      record {
        number = sym o.number;
        position = sym o.position;
        capacity = sym o.capacity;
        limit = sym (ap (λ (m : List ℕ). get_or m k 0) e ∙ get_or-set_other L i k l 0 h);
      }

-- A row that is as it was: its node, and for the limits.
module _ {k : ℕ} {ns : List ℕ} {at : List (List ℤ)} {cs L ns' : List ℕ} {at' : List (List ℤ)} {cs' L' : List ℕ} (s : Same k ns at cs L ns' at' cs' L') where
  pub same_node : (u : ℕ) → node_in u ns' at' cs' k ≡ node_in u ns at cs k
  same_node u = λ t. record { number = sym s.number t; x = across (sym s.position t); y = upward (sym s.position t); capacity = sym s.capacity t; sort = u }

  pub same_patched : {S : Sorts} {u : ℕ} {m : Master} → On (spans_of S u) m k → Patched ns at S L ns' at' L' u m k
  same_patched o = moved k o s.number s.position s.limit

-- A row stays as it was twice;
pub same_then : {k : ℕ} {ns : List ℕ} {at : List (List ℤ)} {cs L ns' : List ℕ} {at' : List (List ℤ)} {cs' L' ns'' : List ℕ} {at'' : List (List ℤ)} {cs'' L'' : List ℕ}
    → Same k ns at cs L ns' at' cs' L' → Same k ns' at' cs' L' ns'' at'' cs'' L'' → Same k ns at cs L ns'' at'' cs'' L''
same_then p q = record {
  number = p.number ∙ q.number;
  position = p.position ∙ q.position;
  capacity = p.capacity ∙ q.capacity;
  limit = p.limit ∙ q.limit;
}

-- a row that is patched stays so,
pub patched_same : {ns : List ℕ} {at : List (List ℤ)} {L ns' : List ℕ} {at' : List (List ℤ)} {cs' L' ns'' : List ℕ} {at'' : List (List ℤ)} {cs'' L'' : List ℕ}
    {S : Sorts} {u : ℕ} {m : Master} {k : ℕ} → Patched ns at S L ns' at' L' u m k → Same k ns' at' cs' L' ns'' at'' cs'' L'' → Patched ns at S L ns'' at'' L'' u m k
patched_same (fresh e) q = fresh (sym q.limit ∙ e)
patched_same (moved h o n p l) q = moved h o (n ∙ q.number) (p ∙ q.position) (l ∙ q.limit)

-- and is patched from rows that stayed as they were.
pub same_patches : {ns : List ℕ} {at : List (List ℤ)} {cs L ns' : List ℕ} {at' : List (List ℤ)} {cs' L' ns'' : List ℕ} {at'' : List (List ℤ)} {L'' : List ℕ}
    {S : Sorts} {u : ℕ} {m : Master} {k : ℕ} → ((h : ℕ) → On (spans_of S u) m h → Same h ns at cs L ns' at' cs' L')
    → Patched ns' at' S L' ns'' at'' L'' u m k → Patched ns at S L ns'' at'' L'' u m k
same_patches f (fresh e) = fresh e
same_patches f (moved h o n p l) = moved h o ((f h o).number ∙ n) ((f h o).position ∙ p) ((f h o).limit ∙ l)

-- A row of a range that is a master's.
pub on_range : (s : Spans) (m : Master) {r : Range} → range s m ≡ r → (k : ℕ) → r.from ≤ k → k < r.to → On s m k
on_range s m e k l h = rw e (l, h)
