-- Sums over nodes and pairs, and that the pairs of unique nodes are distinct.
use Rattle.std.specs.Prelude.{ℕ, ◌+◌, ◌≡◌, Bool, eqb}
use Rattle.std.proofs.Math.Path.{refl, ap, fun_ext}
use Rattle.std.proofs.Common.{sym, subst, ◌∙◌, eq-eqb, ne_eqb}
use Rattle.std.proofs.Math.Bool.{true, false, cond}
use mathlib.Core.List.{List, [], ◌∷◌, ◌++◌, map, Memᴰ}
use Rattle.std.proofs.Math.Decide.{ℕ_discrete}
use native.Mathlib.Omega.{arith}
use Rattle.matching.specs.Definitions.Lists.{All, sum_over}
use Rattle.matching.specs.Definitions.Nodes.{Node, Absent, Unique, of_sort, capacity_of}
use Rattle.matching.specs.Definitions.Pairs.{Pair, pair, pairs, earlier, Before}
use Rattle.matching.proofs.Laws.Lists.{all_map, all_map₂, all_at, all_append, all_append_left, all_append_right, all_of_map, all_to_map, all_true}
use Rattle.matching.proofs.Laws.Sorts.{all_of_sort, all_from_sort, unique_of_sort, sum_of_sort}
use Rattle.matching.proofs.Laws.Earliest.{Leq, strictly, equally}
use Rattle.matching.proofs.Laws.Sorting.{insert, sort, Sorted, all_insert, all_sort}
use Rattle.matching.proofs.Laws.Along.{Apart, Distinct}
use Rattle.matching.proofs.Laws.Greedy.{Strict}

sum_insert : (W : Pair → ℕ) (p : Pair) (S : List Pair) → sum_over W (insert p S) ≡ W p + sum_over W S
unfolding insert sum_over
sum_insert W p [] = refl
sum_insert W p (q ∷ S) = go (earlier q p) (sum_insert W p S)
  where
    go : (t : Bool) → sum_over W (insert p S) ≡ W p + sum_over W S → sum_over W (cond t (q ∷ insert p S) (p ∷ q ∷ S)) ≡ W p + sum_over W (q ∷ S)
    go true e = omega arith
    go false e = refl

sum_sort : (W : Pair → ℕ) (L : List Pair) → sum_over W (sort L) ≡ sum_over W L
unfolding sort sum_over
sum_sort W [] = refl
sum_sort W (p ∷ L) = sum_insert W p (sort L) ∙ ap (λ (n : ℕ). W p + n) (sum_sort W L)

module _ {A : Type 0} where
  pub sum_append : (W : A → ℕ) (l k : List A) → sum_over W (l ++ k) ≡ sum_over W l + sum_over W k
  unfolding sum_over
  sum_append W [] k = omega arith
  sum_append W (x ∷ l) k = omega (arith, sum_append W l k)

  pub sum_map : {B : Type 0} (W : B → ℕ) (f : A → B) (l : List A) → sum_over W (map f l) ≡ sum_over (λ x. W (f x)) l
  unfolding sum_over
  sum_map W f [] = refl
  sum_map W f (x ∷ l) = ap (λ (n : ℕ). W (f x) + n) (sum_map W f l)

  sum_cond : (t : Bool) (W : A → ℕ) (l : List A) → sum_over (λ x. cond t (W x) 0) l ≡ cond t (sum_over W l) 0
  unfolding sum_over
  sum_cond true W l = refl
  sum_cond false W [] = refl
  sum_cond false W (x ∷ l) = omega (arith, sum_cond false W l)

pub sum_plus : {X : Type 0} (F G : X → ℕ) (l : List X) → sum_over (λ x. F x + G x) l ≡ sum_over F l + sum_over G l
unfolding sum_over
sum_plus F G [] = refl
sum_plus F G (x ∷ l) = omega (arith, sum_plus F G l)

pub sum_zero : {X : Type 0} (F : X → ℕ) (l : List X) → All (λ x. F x ≡ 0) l → sum_over F l ≡ 0
unfolding sum_over
sum_zero F [] h = refl
sum_zero F (x ∷ l) h = omega (arith, h.0, sum_zero F l h.1)

pub sum_cong : {A : Type 0} (F G : A → ℕ) (l : List A) → All (λ x. F x ≡ G x) l → sum_over F l ≡ sum_over G l
unfolding sum_over
sum_cong F G [] h = refl
sum_cong F G (x ∷ l) h = omega (arith, h.0, sum_cong F G l h.1)

sum_pairs : (W : Pair → ℕ) (A B : List Node) → sum_over W (pairs A B) ≡ sum_over (λ v. sum_over (λ w. cond (eqb w.sort v.sort) (W (pair v w)) 0) B) A
unfolding pairs sum_over
sum_pairs W [] B = refl
sum_pairs W (v ∷ A) B = omega (arith, sum_append W (map (pair v) (of_sort v.sort B)) (pairs A B), sum_map W (pair v) (of_sort v.sort B), sum_of_sort v.sort (λ w. W (pair v w)) B, sum_pairs W A B)

-- Of nodes with unique numbers only one has the number of v.
sum_none : (n : ℕ) (F : Node → ℕ) (A : List Node) → Absent n A → sum_over (λ u. cond (eqb u.number n) (F u) 0) A ≡ 0
unfolding sum_over
sum_none n F [] h = refl
sum_none n F (u ∷ A) h = rw (ne_eqb u.number n (λ e. h.0 (sym e))) (omega (arith, sum_none n F A h.1))

pub sum_single : (F : Node → ℕ) {v : Node} {A : List Node} → Memᴰ v A → Unique A → sum_over (λ u. cond (eqb u.number v.number) (F u) 0) A ≡ F v
unfolding sum_over
sum_single F {v} (Memᴰ.head {x = u} {xs = A} e) h =
    subst (λ (w : Node). sum_over (λ u. cond (eqb u.number w.number) (F u) 0) (u ∷ A) ≡ F w) (sym e)
    (rw (eq-eqb u.number u.number refl) (omega (arith, sum_none u.number F A h.0)))
sum_single F {v} (Memᴰ.tail {x = u} i) h = rw (ne_eqb u.number v.number (all_at (λ w. u.number ≡ w.number → ⊥) h.0 i)) (omega (arith, sum_single F i h.1))

pub capacity_at : {v : Node} {A : List Node} → Memᴰ v A → Unique A → capacity_of A v.number ≡ v.capacity
unfolding capacity_of
capacity_at {v} (Memᴰ.head {x = u} e) h = rw (e, eq-eqb u.number u.number refl)
capacity_at {v} (Memᴰ.tail {x = u} i) h = rw (ne_eqb u.number v.number (all_at (λ w. u.number ≡ w.number → ⊥) h.0 i)) (capacity_at i h.1)

-- A sum over the sorted pairs of one node.
test_swap : (n m : ℕ) → eqb n m ≡ eqb m n
test_swap n m = go (ℕ_discrete n m)
  where
    go : Dec (n ≡ m) → eqb n m ≡ eqb m n
    go (yes e) = rw (eq-eqb n m e, eq-eqb m n (sym e))
    go (no e) = rw (ne_eqb n m e, ne_eqb m n (λ d. e (sym d)))

cond_swap : (s t : Bool) (n : ℕ) → ◌≡◌ {A = ℕ} (cond s (cond t n 0) 0) (cond t (cond s n 0) 0)
cond_swap true t n = refl
cond_swap false true n = refl
cond_swap false false n = refl

module _ (G : Pair → ℕ) (A B : List Node) where
  pub column_a : {v : Node} → Memᴰ v A → Unique A → sum_over (λ p. cond (eqb p.a v.number) (G p) 0) (sort (pairs A B)) ≡ sum_over (λ w. cond (eqb w.sort v.sort) (G (pair v w)) 0) B
  unfolding pair
  column_a {v} i h =
      sum_sort (λ p. cond (eqb p.a v.number) (G p) 0) (pairs A B)
      ∙ sum_pairs (λ p. cond (eqb p.a v.number) (G p) 0) A B
      ∙ ap (λ (H : Node → ℕ). sum_over H A) (fun_ext (λ u.
      ap (λ (H : Node → ℕ). sum_over H B) (fun_ext (λ w. cond_swap (eqb w.sort u.sort) (eqb u.number v.number) (G (pair u w))))
      ∙ sum_cond (eqb u.number v.number) (λ w. cond (eqb w.sort u.sort) (G (pair u w)) 0) B))
      ∙ sum_single (λ u. sum_over (λ w. cond (eqb w.sort u.sort) (G (pair u w)) 0) B) i h

  pub column_b : {w : Node} → Memᴰ w B → Unique B → sum_over (λ p. cond (eqb p.b w.number) (G p) 0) (sort (pairs A B)) ≡ sum_over (λ v. cond (eqb v.sort w.sort) (G (pair v w)) 0) A
  unfolding pair
  column_b {w} i h =
      sum_sort (λ p. cond (eqb p.b w.number) (G p) 0) (pairs A B)
      ∙ sum_pairs (λ p. cond (eqb p.b w.number) (G p) 0) A B
      ∙ ap (λ (H : Node → ℕ). sum_over H A) (fun_ext (λ v.
      ap (λ (H : Node → ℕ). sum_over H B) (fun_ext (λ u. cond_swap (eqb u.sort v.sort) (eqb u.number w.number) (G (pair v u))))
      ∙ sum_single (λ u. cond (eqb u.sort v.sort) (G (pair v u)) 0) i h
      ∙ rw (test_swap w.sort v.sort)))

-- A property of every pair, and of every two nodes of one sort.
pub all_pairs_lem : (P : Pair → Type 0) (A B : List Node) → All (λ v. All (λ w. v.sort ≡ w.sort → P (pair v w)) B) A → All P (pairs A B)
unfolding pairs
all_pairs_lem P [] B h = tt
all_pairs_lem P (v ∷ A) B h = all_append P (map (pair v) (of_sort v.sort B)) (pairs A B)
    (all_of_map P (pair v) (of_sort v.sort B) (all_of_sort (λ w. P (pair v w)) v.sort B (all_map (λ w k e. k (sym e)) B h.0))) (all_pairs_lem P A B h.1)

pub all_nodes : (P : Pair → Type 0) (A B : List Node) → All P (pairs A B) → All (λ v. All (λ w. v.sort ≡ w.sort → P (pair v w)) B) A
unfolding pairs
all_nodes P [] B h = tt
all_nodes P (v ∷ A) B h = (row, all_nodes P A B (all_append_right P (map (pair v) (of_sort v.sort B)) (pairs A B) h))
  where
    row : All (λ w. v.sort ≡ w.sort → P (pair v w)) B
    row = all_map (λ w k e. k (sym e)) B (all_from_sort (λ w. P (pair v w)) v.sort B
        (all_to_map P (pair v) (of_sort v.sort B) (all_append_left P (map (pair v) (of_sort v.sort B)) (pairs A B) h)))

-- The pairs are distinct.
distinct_append : (l k : List Pair) → Distinct l → Distinct k → All (λ p. All (Apart p) k) l → Distinct (l ++ k)
distinct_append [] k d e h = e
distinct_append (p ∷ l) k d e h = (all_append (Apart p) l k d.0 h.0, distinct_append l k d.1 e h.1)

distinct_row : (v : Node) (B : List Node) → Unique B → Distinct (map (pair v) B)
unfolding pair
distinct_row v [] u = tt
distinct_row v (w ∷ B) u = (all_of_map (Apart (pair v w)) (pair v) B (all_map (λ x n a b. n b) B u.0), distinct_row v B u.1)

pub distinct_pairs : (A B : List Node) → Unique A → Unique B → Distinct (pairs A B)
unfolding pairs pair
distinct_pairs [] B u t = tt
distinct_pairs (v ∷ A) B u t = distinct_append (map (pair v) C) (pairs A B) (distinct_row v C (unique_of_sort v.sort B t)) (distinct_pairs A B u.1 t)
    (all_of_map (λ p. All (Apart p) (pairs A B)) (pair v) C
    (all_true (λ w. all_pairs_lem (Apart (pair v w)) A B (all_map (λ z n. all_true (λ y e a b. n a) B) A u.0)) C))
  where
    C : List Node
    C = of_sort v.sort B

distinct_insert : (p : Pair) (S : List Pair) → All (Apart p) S → Distinct S → Distinct (insert p S)
unfolding insert
distinct_insert p [] h d = (tt, tt)
distinct_insert p (q ∷ S) h d = go (earlier q p) (distinct_insert p S h.1 d.1)
  where
    go : (t : Bool) → Distinct (insert p S) → Distinct (cond t (q ∷ insert p S) (p ∷ q ∷ S))
    go true r = (all_insert (Apart q) p S (λ a b. h.0 (sym a) (sym b)) d.0, r)
    go false r = (h, d)

pub distinct_sort : (L : List Pair) → Distinct L → Distinct (sort L)
unfolding sort
distinct_sort [] d = tt
distinct_sort (p ∷ L) d = distinct_insert p (sort L) (all_sort (Apart p) L d.0) (distinct_sort L d.1)

pub strict : (S : List Pair) → Sorted S → Distinct S → Strict S
strict [] s d = tt
strict (p ∷ S) s d = (all_map₂ go S s.0 d.0, strict S s.1 d.1)
  where
    go : (q : Pair) → Leq p q → Apart p q → Before p q
    go q (strictly h) n = h
    go q (equally e) n = absurd (n (ap (λ (r : Pair). r.a) e) (ap (λ (r : Pair). r.b) e))
