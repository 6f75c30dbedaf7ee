-- For code: rows that have nothing left may be dropped; the links still to be taken stay the same.
use Rattle.std.specs.Prelude.{ℕ, zero, suc, ◌+◌, ◌≤◌, ◌≡◌, refl, Bool, true, false, cond, eqb, length}
use Rattle.std.proofs.Common.{sym, ◌∙◌, ap, ap₂, subst, arith, eq-eqb, ne_eqb}
use Rattle.std.proofs.Math.Option.{none}
use mathlib.Core.List.{List, [], ◌∷◌, map}
use Rattle.std.proofs.Math.Decide.{ℕ_discrete}
use Rattle.matching.specs.Definitions.Lists.{All}
use Rattle.matching.specs.declared.Master.{Master}
use Rattle.matching.specs.declared.Master.TheVariants.{A as master_a, B as master_b}
use Rattle.matching.specs.Definitions.Nodes.{Node, Absent, Unique, of_sort}
use Rattle.matching.specs.Definitions.Pairs.{Pair, pair, pairs}
use Rattle.matching.specs.Definitions.Join.{Left, lesser, taken, consider, earliest, whole}
use Rattle.matching.proofs.Laws.Lists.{all_map, all_true, all_of_map}
use Rattle.matching.proofs.Laws.Left.{taken_le, lesser_none}
use Rattle.matching.proofs.Laws.Earliest.{better, earliest_append, earliest-none}
use Rattle.matching.proofs.Laws.Sorting.{sort, along}
use Rattle.matching.proofs.Laws.Steps.{steps_agree}
use Rattle.matching.proofs.Laws.Without.{pairs_from, enough_from}

-- What the node with number n has left, where ks is what the rows have left.
unfoldable pub left_of : List Node → List ℕ → ℕ → ℕ
left_of [] ks n = 0
left_of (v ∷ A) [] n = 0
left_of (v ∷ A) (k ∷ ks) n = cond (eqb v.number n) k (left_of A ks n)

left_tail : (v : Node) (A : List Node) (k : ℕ) (ks : List ℕ) (n : ℕ) → (n ≡ v.number → ⊥) → left_of (v ∷ A) (k ∷ ks) n ≡ left_of A ks n
unfolding left_of
left_tail v A k ks n e = rw (ne_eqb v.number n (λ d. e (sym d)))

left_absent : (A : List Node) (ks : List ℕ) (n : ℕ) → Absent n A → left_of A ks n ≡ 0
unfolding left_of
left_absent [] ks n h = refl
left_absent (v ∷ A) [] n h = refl
left_absent (v ∷ A) (k ∷ ks) n h = left_tail v A k ks n h.0 ∙ left_absent A ks n h.1

-- The rows that have something left, and what they have.
unfoldable pub keep_nodes : List Node → List ℕ → List Node
keep_nodes [] ks = []
keep_nodes (v ∷ A) [] = []
keep_nodes (v ∷ A) (zero ∷ ks) = keep_nodes A ks
keep_nodes (v ∷ A) (suc k ∷ ks) = v ∷ keep_nodes A ks

unfoldable pub keep_lefts : List ℕ → List ℕ
keep_lefts [] = []
keep_lefts (zero ∷ ks) = keep_lefts ks
keep_lefts (suc k ∷ ks) = suc k ∷ keep_lefts ks

keep_none : (A : List Node) → keep_nodes A [] ≡ []
unfolding keep_nodes
keep_none [] = refl
keep_none (v ∷ A) = refl

keep_length : (A : List Node) (ks : List ℕ) → length (keep_nodes A ks) ≤ length A
unfolding keep_nodes
keep_length [] ks = omega arith
keep_length (v ∷ A) [] = omega arith
keep_length (v ∷ A) (zero ∷ ks) = omega (arith, keep_length A ks)
keep_length (v ∷ A) (suc k ∷ ks) = omega (arith, keep_length A ks)

-- What a node has left stays the same.
pub left_keep : (A : List Node) (ks : List ℕ) → Unique A → (n : ℕ) → left_of (keep_nodes A ks) (keep_lefts ks) n ≡ left_of A ks n
unfolding left_of keep_nodes keep_lefts
left_keep [] ks u n = refl
left_keep (v ∷ A) [] u n = refl
left_keep (v ∷ A) (zero ∷ ks) u n = go (ℕ_discrete v.number n) (left_keep A ks u.1 n)
  where
    go : Dec (v.number ≡ n) → left_of (keep_nodes A ks) (keep_lefts ks) n ≡ left_of A ks n → left_of (keep_nodes A ks) (keep_lefts ks) n ≡ cond (eqb v.number n) 0 (left_of A ks n)
    go (yes e) ih = rw (eq-eqb v.number n e) (ih ∙ ap (left_of A ks) (sym e) ∙ left_absent A ks v.number u.0)
    go (no e) ih = rw (ne_eqb v.number n e) ih
left_keep (v ∷ A) (suc k ∷ ks) u n = ap (cond (eqb v.number n) (suc k)) (left_keep A ks u.1 n)

-- The rows that are dropped have nothing left.
abbrev Dead : (ℕ → ℕ) → List Node → List ℕ → Type 0
Dead f [] ks = Unit {0}
Dead f (v ∷ A) [] = (f v.number ≡ 0) × Dead f A []
Dead f (v ∷ A) (zero ∷ ks) = (f v.number ≡ 0) × Dead f A ks
Dead f (v ∷ A) (suc k ∷ ks) = Dead f A ks

dead_less : (f g : ℕ → ℕ) (A : List Node) (ks : List ℕ) → All (λ v. g v.number ≤ f v.number) A → Dead f A ks → Dead g A ks
dead_less f g [] ks e h = tt
dead_less f g (v ∷ A) [] e h = (omega (arith, e.0, h.0), dead_less f g A [] e.1 h.1)
dead_less f g (v ∷ A) (zero ∷ ks) e h = (omega (arith, e.0, h.0), dead_less f g A ks e.1 h.1)
dead_less f g (v ∷ A) (suc k ∷ ks) e h = dead_less f g A ks e.1 h

left_later : (v : Node) (A : List Node) (k : ℕ) (ks : List ℕ) (w : Node) → (v.number ≡ w.number → ⊥) → left_of (v ∷ A) (k ∷ ks) w.number ≤ left_of A ks w.number
left_later v A k ks w h = omega (arith, left_tail v A k ks w.number (λ e. h (sym e)))

dead_now : (A : List Node) (ks : List ℕ) → Unique A → Dead (left_of A ks) A ks
unfolding left_of
dead_now [] ks u = tt
dead_now (v ∷ A) [] u = (refl, none_left A)
  where
    none_left : (C : List Node) → Dead (left_of (v ∷ A) []) C []
    none_left [] = tt
    none_left (w ∷ C) = (refl, none_left C)
dead_now (v ∷ A) (k ∷ ks) u = go k (dead_less (left_of A ks) (left_of (v ∷ A) (k ∷ ks)) A ks (all_map (left_later v A k ks) A u.0) (dead_now A ks u.1))
  where
    go : (j : ℕ) → Dead (left_of (v ∷ A) (j ∷ ks)) A ks → Dead (left_of (v ∷ A) (j ∷ ks)) (v ∷ A) (j ∷ ks)
    go zero h = (rw (eq-eqb v.number v.number refl), h)
    go (suc j) h = h

-- The search finds the same without them: rows of A,
row_none : (v : Node) (B : List Node) (d : Left) → d master_a v.number ≡ 0 → earliest (map (pair v) B) d ≡ none
unfolding pair
row_none v B d e = earliest-none (map (pair v) B) d (all_of_map (λ q. lesser d q ≡ 0) (pair v) B (all_true (λ w. lesser_none d (pair v w) master_a e) B))

abbrev row : Node → List Node → List Pair
row v B = map (pair v) (of_sort v.sort B)

earliest_keep_a : (A B : List Node) (ks : List ℕ) (d : Left) → Dead (d master_a) A ks → earliest (pairs A B) d ≡ earliest (pairs (keep_nodes A ks) B) d
unfolding pairs keep_nodes better
earliest_keep_a [] B ks d h = refl
earliest_keep_a (v ∷ A) B [] d h = earliest_append (row v B) (pairs A B) d ∙ rw (row_none v (of_sort v.sort B) d h.0) (earliest_keep_a A B [] d h.1 ∙ rw (keep_none A))
earliest_keep_a (v ∷ A) B (zero ∷ ks) d h = earliest_append (row v B) (pairs A B) d ∙ rw (row_none v (of_sort v.sort B) d h.0) (earliest_keep_a A B ks d h.1)
earliest_keep_a (v ∷ A) B (suc k ∷ ks) d h =
    earliest_append (row v B) (pairs A B) d ∙ ap (better (earliest (row v B) d)) (earliest_keep_a A B ks d h) ∙ sym (earliest_append (row v B) (pairs (keep_nodes A ks) B) d)

-- and within a row those of B.
module _ (v w : Node) (d : Left) where
  row_past : (B : List Node) → d master_b w.number ≡ 0 → earliest (row v (w ∷ B)) d ≡ earliest (row v B) d
  unfolding of_sort earliest consider pair
  row_past B e = go (eqb w.sort v.sort)
    where
      C : List Node
      C = of_sort v.sort B

      go : (t : Bool) → earliest (map (pair v) (cond t (w ∷ C) C)) d ≡ earliest (map (pair v) C) d
      go true = rw (lesser_none d (pair v w) master_b e)
      go false = refl

  row_on : (B C : List Node) → earliest (row v B) d ≡ earliest (row v C) d → earliest (row v (w ∷ B)) d ≡ earliest (row v (w ∷ C)) d
  unfolding of_sort earliest consider pair
  row_on B C e = go (eqb w.sort v.sort)
    where
      B' : List Node
      B' = of_sort v.sort B

      C' : List Node
      C' = of_sort v.sort C

      go : (t : Bool) → earliest (map (pair v) (cond t (w ∷ B') B')) d ≡ earliest (map (pair v) (cond t (w ∷ C') C')) d
      go true = ap (consider (pair v w) (lesser d (pair v w))) e
      go false = e

row_keep : (v : Node) (B : List Node) (ls : List ℕ) (d : Left) → Dead (d master_b) B ls → earliest (row v B) d ≡ earliest (row v (keep_nodes B ls)) d
unfolding keep_nodes
row_keep v [] ls d h = refl
row_keep v (w ∷ B) [] d h = row_past v w d B h.0 ∙ row_keep v B [] d h.1 ∙ rw (keep_none B)
row_keep v (w ∷ B) (zero ∷ ls) d h = row_past v w d B h.0 ∙ row_keep v B ls d h.1
row_keep v (w ∷ B) (suc k ∷ ls) d h = row_on v w d B (keep_nodes B ls) (row_keep v B ls d h)

earliest_keep_b : (A B : List Node) (ls : List ℕ) (d : Left) → Dead (d master_b) B ls → earliest (pairs A B) d ≡ earliest (pairs A (keep_nodes B ls)) d
unfolding pairs
earliest_keep_b [] B ls d h = refl
earliest_keep_b (v ∷ A) B ls d h =
    earliest_append (row v B) (pairs A B) d
    ∙ ap₂ better (row_keep v B ls d h) (earliest_keep_b A B ls d h)
    ∙ sym (earliest_append (row v (keep_nodes B ls)) (pairs A (keep_nodes B ls)) d)

earliest_keep : (s : Master) (A B : List Node) (ks : List ℕ) (d : Left) → Dead (d s) A ks → earliest (pairs_from s A B) d ≡ earliest (pairs_from s (keep_nodes A ks) B) d
earliest_keep master_a A B ks d h = earliest_keep_a A B ks d h
earliest_keep master_b A B ks d h = earliest_keep_b B A ks d h

-- The links still to be taken, seen from the master whose rows are dropped.
pub drop_spent : (s : Master) (A B : List Node) (ks : List ℕ) (c : Left) → Unique A → c s ≡ left_of A ks → along (sort (pairs_from s A B)) c ≡ along (sort (pairs_from s (keep_nodes A ks) B)) c
drop_spent s A B ks c u e =
    sym (enough_from s A B n c (omega arith))
    ∙ steps_agree whole (pairs_from s A B) (pairs_from s (keep_nodes A ks) B) (λ d. Dead (d s) A ks)
    (λ d p m. dead_less (d s) (taken d p m s) A ks (all_true (λ v. taken_le d p m s v.number) A))
    (earliest_keep s A B ks) n c (subst (λ (f : ℕ → ℕ). Dead f A ks) (sym e) (dead_now A ks u))
    ∙ enough_from s (keep_nodes A ks) B n c (omega (arith, keep_length A ks))
  where
    n : ℕ
    n = length A + length B
