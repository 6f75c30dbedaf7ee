-- The order of the rows does not matter: the same nodes in another order have the same join.
use Rattle.std.specs.Prelude.{ℕ, ◌+◌, ◌≡◌, Bool, true, false, cond, eqb, length}
use Rattle.std.proofs.Math.Path.{refl, sym, ap, ap₂, fun_ext}
use Rattle.std.proofs.Common.{◌∙◌, eq-eqb, ne_eqb}
use mathlib.Core.List.{List, [], ◌∷◌, map}
use Rattle.std.proofs.Math.Decide.{ℕ_discrete}
use Rattle.matching.specs.Definitions.Lists.{Reordered, same, swap, skip, then}
use Rattle.matching.specs.Definitions.Nodes.{each, Node, Unique, capacity_of, of_sort}
use Rattle.matching.specs.Definitions.Pairs.{Pair, pair, pairs}
use Rattle.matching.specs.Definitions.Join.{Left, capacities, lesser, consider, earliest, steps, whole, join}
use Rattle.matching.proofs.Laws.Earliest.{consider_comm, better, earliest_append, earliest_swap}
use Rattle.matching.proofs.Laws.Reordered.{reordered_length, reordered_all}
use Rattle.matching.proofs.Laws.Steps.{steps_same}

pub reordered_unique : {A C : List Node} → Reordered A C → Unique A → Unique C
reordered_unique same u = u
reordered_unique (swap v w) u = (((λ e. u.0.0 (sym e)), u.1.0), (u.0.1, u.1.1))
reordered_unique (skip v r) u = (reordered_all (λ w. v.number ≡ w.number → ⊥) r u.0, reordered_unique r u.1)
reordered_unique (then r s) u = reordered_unique s (reordered_unique r u)

reordered_capacity : {A C : List Node} → Reordered A C → Unique A → (n : ℕ) → capacity_of A n ≡ capacity_of C n
unfolding capacity_of
reordered_capacity same u n = refl
reordered_capacity (swap v w {A = A}) u n = go (ℕ_discrete v.number n) (ℕ_discrete w.number n)
  where
    go : Dec (v.number ≡ n) → Dec (w.number ≡ n) → capacity_of (v ∷ w ∷ A) n ≡ capacity_of (w ∷ v ∷ A) n
    go (yes e) (yes g) = absurd (u.0.0 (e ∙ sym g))
    go (yes e) (no g) = rw (eq-eqb v.number n e, ne_eqb w.number n g)
    go (no e) g = rw (ne_eqb v.number n e)
reordered_capacity (skip v r) u n = ap (λ (c : ℕ). cond (eqb v.number n) v.capacity c) (reordered_capacity r u.1 n)
reordered_capacity (then r s) u n = reordered_capacity r u n ∙ reordered_capacity s (reordered_unique r u) n

reordered_sort : (s : ℕ) {A C : List Node} → Reordered A C → Reordered (of_sort s A) (of_sort s C)
unfolding of_sort
reordered_sort s same = same
reordered_sort s (swap v w {A = A}) = go (eqb v.sort s) (eqb w.sort s)
  where
    C : List Node
    C = of_sort s A

    go : (p q : Bool) → Reordered (cond p (v ∷ cond q (w ∷ C) C) (cond q (w ∷ C) C)) (cond q (w ∷ cond p (v ∷ C) C) (cond p (v ∷ C) C))
    go true true = swap v w
    go true false = same
    go false q = same
reordered_sort s (skip v {A = A} {C = C} r) = go (eqb v.sort s) (reordered_sort s r)
  where
    go : (t : Bool) → Reordered (of_sort s A) (of_sort s C) → Reordered (cond t (v ∷ of_sort s A) (of_sort s A)) (cond t (v ∷ of_sort s C) (of_sort s C))
    go true h = skip v h
    go false h = h
reordered_sort s (then r t) = then (reordered_sort s r) (reordered_sort s t)

-- The search for the earliest pair goes through A's rows,
module _ (c : Left) where
  rows_a : {A C : List Node} (B : List Node) → Reordered A C → earliest (pairs A B) c ≡ earliest (pairs C B) c
  unfolding pairs
  rows_a B same = refl
  rows_a B (swap v w {A = A}) = earliest_swap (map (pair v) (of_sort v.sort B)) (map (pair w) (of_sort w.sort B)) (pairs A B) c
  rows_a B (skip v {A = A} {C = C} r) =
      earliest_append row (pairs A B) c ∙ ap (better (earliest row c)) (rows_a B r) ∙ sym (earliest_append row (pairs C B) c)
    where
      row : List Pair
      row = map (pair v) (of_sort v.sort B)
  rows_a B (then r s) = rows_a B r ∙ rows_a B s

  -- and in each through B's.
  row_b : (v : Node) {B C : List Node} → Reordered B C → earliest (map (pair v) B) c ≡ earliest (map (pair v) C) c
  unfolding earliest
  row_b v same = refl
  row_b v (swap u w {A = B}) = consider_comm (pair v u) (lesser c (pair v u)) (pair v w) (lesser c (pair v w)) (earliest (map (pair v) B) c)
  row_b v (skip u r) = ap (consider (pair v u) (lesser c (pair v u))) (row_b v r)
  row_b v (then r s) = row_b v r ∙ row_b v s

  rows_b : (A : List Node) {B C : List Node} → Reordered B C → earliest (pairs A B) c ≡ earliest (pairs A C) c
  unfolding pairs
  rows_b [] r = refl
  rows_b (v ∷ A) {B} {C} r =
      earliest_append (map (pair v) (of_sort v.sort B)) (pairs A B) c
      ∙ ap₂ better (row_b v (reordered_sort v.sort r)) (rows_b A r)
      ∙ sym (earliest_append (map (pair v) (of_sort v.sort C)) (pairs A C) c)

pub join_reordered : {A C B D : List Node} → Reordered A C → Reordered B D → Unique A → Unique B → join A B ≡ join C D
unfolding join capacities
join_reordered {A} {C} {B} {D} r s u w =
    steps_same whole (pairs A B) (pairs C D) (λ c. rows_a c B r ∙ rows_b c C s) (length A + length B) (capacities A B)
    ∙ (λ i. steps whole (reordered_length r i + reordered_length s i) (pairs C D) (each (fun_ext (reordered_capacity r u) i) (fun_ext (reordered_capacity s w) i)))
