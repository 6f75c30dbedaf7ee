-- The nodes of one sort.
use Rattle.std.specs.Prelude.{ℕ, ◌+◌, ◌≡◌, Bool, cond}
use Rattle.std.proofs.Math.Path.{refl}
use Rattle.std.proofs.Common.{ap, arith, eq-eqb, ne_eqb, eqb-true}
use Rattle.std.proofs.Math.Bool.{true, false}
use mathlib.Core.List.{List, [], ◌∷◌, ◌++◌, Memᴰ}
use Rattle.std.proofs.Math.Decide.{ℕ_discrete}
use Rattle.std.proofs.Math.Dec.{eqb}
use Rattle.matching.specs.Definitions.Lists.{All, sum_over}
use Rattle.matching.specs.Definitions.Nodes.{Node, Unique, of_sort}
use Rattle.matching.proofs.Laws.Lists.{all_at, all_in}

-- A property of every node of the sort, and back.
module _ (P : Node → Type 0) (s : ℕ) where
  pub all_of_sort : (A : List Node) → All (λ v. v.sort ≡ s → P v) A → All P (of_sort s A)
  unfolding of_sort
  all_of_sort [] h = tt
  all_of_sort (v ∷ A) h = go (eqb v.sort s) refl (all_of_sort A h.1)
    where
      go : (t : Bool) → eqb v.sort s ≡ t → All P (of_sort s A) → All P (cond t (v ∷ of_sort s A) (of_sort s A))
      go true e r = (h.0 (eqb-true v.sort s e), r)
      go false e r = r

  pub all_from_sort : (A : List Node) → All P (of_sort s A) → All (λ v. v.sort ≡ s → P v) A
  unfolding of_sort
  all_from_sort [] h = tt
  all_from_sort (v ∷ A) h = go (ℕ_discrete v.sort s) h (all_from_sort A)
    where
      go : Dec (v.sort ≡ s) → All P (cond (eqb v.sort s) (v ∷ of_sort s A) (of_sort s A)) → (All P (of_sort s A) → All (λ v. v.sort ≡ s → P v) A) → All (λ v. v.sort ≡ s → P v) (v ∷ A)
      go (yes e) h r = let k : All P (v ∷ of_sort s A) = rw (eq-eqb v.sort s e) at h in ((λ d. k.0), r k.1)
      go (no e) h r = ((λ d. absurd (e d)), r (rw (ne_eqb v.sort s e) at h))

-- A node of the sort is one of these,
pub in_sort : {s : ℕ} {v : Node} {A : List Node} → Memᴰ v A → v.sort ≡ s → Memᴰ v (of_sort s A)
in_sort {s} {v} {A} i = all_at (λ u. u.sort ≡ s → Memᴰ u (of_sort s A)) (all_from_sort (λ u. Memᴰ u (of_sort s A)) s A (all_in (of_sort s A) (λ u j. j))) i

-- and these are nodes of the list, of the sort.
pub of_sort_lem : {s : ℕ} {v : Node} (A : List Node) → Memᴰ v (of_sort s A) → Memᴰ v A × (v.sort ≡ s)
of_sort_lem {s} {v} A i = all_at (λ u. Memᴰ u A × (u.sort ≡ s)) (all_of_sort (λ u. Memᴰ u A × (u.sort ≡ s)) s A (all_in A (λ u j e. (j, e)))) i

pub unique_of_sort : (s : ℕ) (A : List Node) → Unique A → Unique (of_sort s A)
unfolding of_sort
unique_of_sort s [] u = tt
unique_of_sort s (v ∷ A) u = go (eqb v.sort s) (unique_of_sort s A u.1)
  where
    go : (t : Bool) → Unique (of_sort s A) → Unique (cond t (v ∷ of_sort s A) (of_sort s A))
    go true r = (all_of_sort (λ w. v.number ≡ w.number → ⊥) s A (all_in A (λ w i e. all_at (λ w. v.number ≡ w.number → ⊥) u.0 i)), r)
    go false r = r

-- All nodes may be of the sort, or none.
pub same_sort : (s : ℕ) (A : List Node) → All (λ v. v.sort ≡ s) A → of_sort s A ≡ A
unfolding of_sort
same_sort s [] h = refl
same_sort s (v ∷ A) h = rw (eq-eqb v.sort s h.0) (ap (λ (l : List Node). v ∷ l) (same_sort s A h.1))

pub none_sort : (s : ℕ) (A : List Node) → All (λ v. v.sort ≡ s → ⊥) A → of_sort s A ≡ []
unfolding of_sort
none_sort s [] h = refl
none_sort s (v ∷ A) h = rw (ne_eqb v.sort s h.0) (none_sort s A h.1)

pub sort_append : (s : ℕ) (A B : List Node) → of_sort s (A ++ B) ≡ of_sort s A ++ of_sort s B
unfolding of_sort
sort_append s [] B = refl
sort_append s (v ∷ A) B = go (eqb v.sort s) (sort_append s A B)
  where
    go : (t : Bool) → of_sort s (A ++ B) ≡ of_sort s A ++ of_sort s B → cond t (v ∷ of_sort s (A ++ B)) (of_sort s (A ++ B)) ≡ cond t (v ∷ of_sort s A) (of_sort s A) ++ of_sort s B
    go true e = ap (λ (l : List Node). v ∷ l) e
    go false e = e

-- A sum over them.
pub sum_of_sort : (s : ℕ) (F : Node → ℕ) (A : List Node) → sum_over F (of_sort s A) ≡ sum_over (λ v. cond (eqb v.sort s) (F v) 0) A
unfolding of_sort sum_over
sum_of_sort s F [] = refl
sum_of_sort s F (v ∷ A) = go (eqb v.sort s) (sum_of_sort s F A)
  where
    go : (t : Bool) → sum_over F (of_sort s A) ≡ sum_over (λ v. cond (eqb v.sort s) (F v) 0) A
        → sum_over F (cond t (v ∷ of_sort s A) (of_sort s A)) ≡ cond t (F v) 0 + sum_over (λ v. cond (eqb v.sort s) (F v) 0) A
    go true e = omega arith
    go false e = omega arith

pub only_sort : (s : ℕ) (F : Node → ℕ) (A : List Node) → All (λ v. (v.sort ≡ s → ⊥) → F v ≡ 0) A → sum_over (λ v. cond (eqb v.sort s) (F v) 0) A ≡ sum_over F A
unfolding sum_over
only_sort s F [] h = refl
only_sort s F (v ∷ A) h = go (ℕ_discrete v.sort s) (only_sort s F A h.1)
  where
    go : Dec (v.sort ≡ s) → sum_over (λ v. cond (eqb v.sort s) (F v) 0) A ≡ sum_over F A → cond (eqb v.sort s) (F v) 0 + sum_over (λ v. cond (eqb v.sort s) (F v) 0) A ≡ F v + sum_over F A
    go (yes e) r = rw (eq-eqb v.sort s e) (omega arith)
    go (no e) r = rw (ne_eqb v.sort s e) (omega (arith, h.0 e))
