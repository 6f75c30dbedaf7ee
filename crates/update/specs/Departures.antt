-- A departure from nodes in another order, from nodes that have no such number, and from the nodes after an edit.
use Rattle.std.specs.Prelude.{ℕ, ◌≡◌, refl, Bool, true, false, List, [], ◌∷◌, ◌++◌}
use Rattle.std.proofs.Common.{sym, ◌∙◌, ap, subst, eq-eqb, ne_eqb}
use Rattle.std.proofs.Math.Decide.{ℕ_discrete}
use Rattle.matching.specs.Definitions.Lists.{Reordered, same, swap, skip, then}
use Rattle.matching.specs.Definitions.Nodes.{Node, Absent, Unique, has, of_sort}
use Rattle.matching.specs.Definitions.Edits.{depart, amend, moved, resized}
use Rattle.matching.proofs.Laws.Lists.{all_map}
use Rattle.matching.proofs.Laws.Sorts.{all_of_sort}
use Rattle.matching.proofs.Laws.Split.{Split, split, absent_of_unique}
use Rattle.matching.proofs.Laws.Undo.{arrive-depart}
use Rattle.matching.proofs.Theorems.RowOrder.{reordered_unique}
use Rattle.tables.specs.Definitions.Tables.{node_from}
use Rattle.tables.specs.Definitions.Edits.{number_of, edit_node, edit_nodes}
use Rattle.tables.proofs.Laws.Edits.{Passes, Kind, arrival, departure, move, capacity, kind_cases}
use Rattle.tables.proofs.Laws.Edited.{has_none}

-- No node has the number.
pub depart_absent : (z : ℕ) (A : List Node) → Absent z A → depart z A ≡ A
unfolding depart
depart_absent z [] h = refl
depart_absent z (v ∷ A) h = rw (ne_eqb v.number z (λ e. h.0 (sym e))) (ap (λ (C : List Node). v ∷ C) (depart_absent z A h.1))

-- The first node with the number.
pub depart_at : (z : ℕ) (A : List Node) (v : Node) (C : List Node) → Absent z A → v.number ≡ z → depart z (A ++ (v ∷ C)) ≡ A ++ C
unfolding depart
depart_at z [] v C h e = rw (eq-eqb v.number z e)
depart_at z (w ∷ A) v C h e = rw (ne_eqb w.number z (λ d. h.0 (sym d))) (ap (λ (D : List Node). w ∷ D) (depart_at z A v C h.1 e))

-- The same nodes in another order stay so.
pub depart_reordered : {A C : List Node} → Reordered A C → Unique A → (z : ℕ) → Reordered (depart z A) (depart z C)
unfolding depart
depart_reordered same u z = same
depart_reordered (swap v w {A = A}) u z = go (ℕ_discrete v.number z) (ℕ_discrete w.number z)
  where
    go : Dec (v.number ≡ z) → Dec (w.number ≡ z) → Reordered (depart z (v ∷ w ∷ A)) (depart z (w ∷ v ∷ A))
    go (yes e) (yes g) = absurd (u.0.0 (e ∙ sym g))
    go (yes e) (no g) = rw (eq-eqb v.number z e, ne_eqb w.number z g) same
    go (no e) (yes g) = rw (ne_eqb v.number z e, eq-eqb w.number z g) same
    go (no e) (no g) = rw (ne_eqb v.number z e, ne_eqb w.number z g) (swap v w)
depart_reordered (skip v {A = A} {C = C} r) u z = go (ℕ_discrete v.number z) (depart_reordered r u.1 z)
  where
    go : Dec (v.number ≡ z) → Reordered (depart z A) (depart z C) → Reordered (depart z (v ∷ A)) (depart z (v ∷ C))
    go (yes e) d = rw (eq-eqb v.number z e) r
    go (no e) d = rw (ne_eqb v.number z e) (skip v d)
depart_reordered (then r s) u z = then (depart_reordered r u z) (depart_reordered s (reordered_unique r u) z)

-- The nodes of a sort lose the same node.
pub depart_sort : (u z : ℕ) (A : List Node) → Unique A → depart z (of_sort u A) ≡ of_sort u (depart z A)
unfolding depart of_sort
depart_sort u z [] h = refl
depart_sort u z (v ∷ A) h = go (ℕ_discrete v.number z) (ℕ_discrete v.sort u) (depart_sort u z A h.1)
  where
    free : v.number ≡ z → Absent z (of_sort u A)
    free e = all_of_sort (λ w. z ≡ w.number → ⊥) u A (all_map (λ w n s d. n (e ∙ d)) A h.0)

    go : Dec (v.number ≡ z) → Dec (v.sort ≡ u) → depart z (of_sort u A) ≡ of_sort u (depart z A) → depart z (of_sort u (v ∷ A)) ≡ of_sort u (depart z (v ∷ A))
    go (yes e) (yes s) r = rw (eq-eqb v.sort u s, eq-eqb v.number z e)
    go (yes e) (no s) r = rw (ne_eqb v.sort u s, eq-eqb v.number z e) (depart_absent z (of_sort u A) (free e))
    go (no e) (yes s) r = rw (eq-eqb v.sort u s, ne_eqb v.number z e, eq-eqb v.sort u s) (ap (λ (C : List Node). v ∷ C) r)
    go (no e) (no s) r = rw (ne_eqb v.sort u s, ne_eqb v.number z e, ne_eqb v.sort u s) r

-- A change that keeps the number.
depart-amend : (f : Node → Node) → ((v : Node) → (f v).number ≡ v.number) → (z : ℕ) (A : List Node) → depart z (amend f z A) ≡ depart z A
unfolding depart amend
depart-amend f k z [] = refl
depart-amend f k z (v ∷ A) = go (ℕ_discrete v.number z) (depart-amend f k z A)
  where
    go : Dec (v.number ≡ z) → depart z (amend f z A) ≡ depart z A → depart z (amend f z (v ∷ A)) ≡ depart z (v ∷ A)
    go (yes e) r = rw (eq-eqb v.number z e, eq-eqb (f v).number z (k v ∙ e))
    go (no e) r = rw (ne_eqb v.number z e, ne_eqb v.number z e) (ap (λ (C : List Node). v ∷ C) r)

-- A second departure finds no such number.
depart_twice : (z : ℕ) (A : List Node) → Unique A → depart z (depart z A) ≡ depart z A
depart_twice z A u = go (has z A) refl
  where
    free : Split z A → Absent z (depart z A)
    free s = rw s.departed (subst (λ (n : ℕ). Absent n (s.A₁ ++ s.A₂)) s.is_number (absent_of_unique s.A₁ s.v s.A₂ (rw s.is_list at u)))

    go : (t : Bool) → has z A ≡ t → depart z (depart z A) ≡ depart z A
    go true h = depart_absent z (depart z A) (free (split z A h))
    go false h = ap (depart z) (depart_absent z A (has_none z A h))

-- An edit changes the node with its number alone.
pub depart_edit : (e : List ℕ) (A : List Node) → Unique A → Passes e A → depart (number_of e) (edit_nodes e A) ≡ depart (number_of e) A
unfolding edit_nodes edit_node node_from number_of
depart_edit e A u p = go (kind_cases e p.least p.most)
  where
    go : Kind e → depart (number_of e) (edit_nodes e A) ≡ depart (number_of e) A
    go (arrival k) =
        let free : Absent (number_of e) A = has_none (number_of e) A (rw k at p.known) in
        rw (k, depart_absent (number_of e) A free) (arrive-depart (edit_node e) A free)
    go (departure k) = rw k (depart_twice (number_of e) A u)
    go (move k) = rw k (depart-amend (moved (edit_node e).x (edit_node e).y) (λ v. refl) (number_of e) A)
    go (capacity k) = rw k (depart-amend (resized (edit_node e).capacity (edit_node e).sort) (λ v. refl) (number_of e) A)
