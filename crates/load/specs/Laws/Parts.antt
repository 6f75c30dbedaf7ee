-- Nodes are those of one sort and those of the other.
use Rattle.std.specs.Prelude.{ℕ, zero, suc, ◌+◌, ◌≤◌, ◌≡◌, refl, Bool, true, false, cond, eqb, length}
use Rattle.std.proofs.Common.{arith, eq-eqb, ne_eqb}
use mathlib.Core.List.{List, [], ◌∷◌, ◌++◌}
use Rattle.std.proofs.Math.Decide.{ℕ_discrete}
use Rattle.matching.specs.Definitions.Lists.{All, Reordered, same, swap, skip, then}
use Rattle.matching.specs.Definitions.Nodes.{Node, Unique, of_sort}
use Rattle.matching.proofs.Laws.Lists.{all_append_left, all_append_right}

-- Two lists in another order, one behind the other.
pub reordered_append : {A C B D : List Node} → Reordered A C → Reordered B D → Reordered (A ++ B) (C ++ D)
reordered_append {A} {C} {B} {D} r q = then (front r B) (behind C q)
  where
    front : {A C : List Node} → Reordered A C → (B : List Node) → Reordered (A ++ B) (C ++ B)
    front same B = same
    front (swap v w) B = swap v w
    front (skip v r) B = skip v (front r B)
    front (then r s) B = then (front r B) (front s B)

    behind : (C : List Node) {B D : List Node} → Reordered B D → Reordered (C ++ B) (C ++ D)
    behind [] r = r
    behind (v ∷ C) r = skip v (behind C r)

-- A node from behind others to the front.
to_front : (A : List Node) (v : Node) (B : List Node) → Reordered (v ∷ (A ++ B)) (A ++ (v ∷ B))
to_front [] v B = same
to_front (w ∷ A) v B = then (swap v w) (skip w (to_front A v B))

-- The parts, in any order of the parts' nodes, are the whole,
pub parts : (A : List Node) → All (λ v. v.sort ≤ 1) A → Reordered A (of_sort 0 A ++ of_sort 1 A)
unfolding of_sort
parts [] h = same
parts (v ∷ A) h = go v.sort refl h.0 (parts A h.1)
  where
    go : (s : ℕ) → v.sort ≡ s → s ≤ 1 → Reordered A (of_sort 0 A ++ of_sort 1 A) → Reordered (v ∷ A) (of_sort 0 (v ∷ A) ++ of_sort 1 (v ∷ A))
    go zero e l r = rw (eq-eqb v.sort 0 e, ne_eqb v.sort 1 (λ d. omega arith)) (skip v r)
    go (suc zero) e l r = rw (ne_eqb v.sort 0 (λ d. omega arith), eq-eqb v.sort 1 e) (then (skip v r) (to_front (of_sort 0 A) v (of_sort 1 A)))
    go (suc (suc s)) e l r = absurd (omega arith)

-- and never more.
pub parts_length : (A : List Node) → length (of_sort 0 A) + length (of_sort 1 A) ≤ length A
unfolding of_sort
parts_length [] = omega arith
parts_length (v ∷ A) = go (ℕ_discrete v.sort 0) (ℕ_discrete v.sort 1) (parts_length A)
  where
    go : Dec (v.sort ≡ 0) → Dec (v.sort ≡ 1) → length (of_sort 0 A) + length (of_sort 1 A) ≤ length A → length (of_sort 0 (v ∷ A)) + length (of_sort 1 (v ∷ A)) ≤ suc (length A)
    go (yes e) q r = rw (eq-eqb v.sort 0 e, ne_eqb v.sort 1 (λ d. omega arith)) (omega arith)
    go (no n) (yes e) r = rw (ne_eqb v.sort 0 n, eq-eqb v.sort 1 e) (omega arith)
    go (no n) (no k) r = rw (ne_eqb v.sort 0 n, ne_eqb v.sort 1 k) (omega arith)

pub part_length : (u : ℕ) (A : List Node) → length (of_sort u A) ≤ length A
unfolding of_sort
part_length u [] = omega arith
part_length u (v ∷ A) = go (eqb v.sort u) (part_length u A)
  where
    go : (t : Bool) → length (of_sort u A) ≤ length A → length (cond t (v ∷ of_sort u A) (of_sort u A)) ≤ suc (length A)
    go true h = omega arith
    go false h = omega arith

-- Unique numbers are unique in each of two parts, and none is in both.
pub unique_left : (A B : List Node) → Unique (A ++ B) → Unique A
unique_left [] B u = tt
unique_left (v ∷ A) B u = (all_append_left (λ w. v.number ≡ w.number → ⊥) A B u.0, unique_left A B u.1)

pub unique_right : (A B : List Node) → Unique (A ++ B) → Unique B
unique_right [] B u = u
unique_right (v ∷ A) B u = unique_right A B u.1

pub unique_across : (A B : List Node) → Unique (A ++ B) → All (λ v. All (λ w. v.number ≡ w.number → ⊥) B) A
unique_across [] B u = tt
unique_across (v ∷ A) B u = (all_append_right (λ w. v.number ≡ w.number → ⊥) A B u.0, unique_across A B u.1)
