-- Good nodes stay good under an edit that is not refused.
use Prim.Native.Nat.{ℕ, suc, ◌≤◌}
use Rattle.std.specs.Prelude.{◌≡◌, Bool, cond, ◌&&◌, eqb, nat_abs}
use Rattle.std.proofs.Math.Path.{refl, ap}
use Rattle.std.proofs.Common.{sym, ◌∙◌, arith, leb-true}
use Rattle.std.proofs.Math.Bool.{true, false}
use mathlib.Core.List.{List, [], ◌∷◌}
use Rattle.std.proofs.Math.ListN.{length, length-append}
use Rattle.std.proofs.lemmas.Bool.{eqb-false}
use Rattle.matching.specs.Definitions.Lists.{All}
use Rattle.matching.specs.Definitions.Nodes.{Node, Absent, Unique, has}
use Rattle.matching.specs.Definitions.Edits.{arrive, depart, amend, moved, resized}
use Rattle.matching.proofs.Laws.Lists.{all_append}
use Rattle.tables.specs.Definitions.Sizes.{number_size, farthest, most, most_sort, node_rows, edit_number}
use Rattle.tables.specs.Definitions.Tables.{node_from, position_good, capacity_good, GoodNode, GoodNodes}
use Rattle.tables.specs.Definitions.Edits.{kind_of, number_of, edit_node, positions_zero, positions_good, capacity_field, edit_fields, edit_nodes}
use Rattle.tables.specs.Laws.Fields.{nat_high}
use Rattle.tables.specs.Laws.Rows.{or_split, and_split}
use Rattle.tables.proofs.Laws.Accepted.{capacity_range}
use Rattle.tables.proofs.Laws.Edits.{Passes, Kind, arrival, departure, move, capacity, kind_cases}

-- A departure.
all_depart : (P : Node → Type 0) (n : ℕ) (A : List Node) → All P A → All P (depart n A)
unfolding depart
all_depart P n [] h = tt
all_depart P n (v ∷ A) h = go (eqb v.number n) (all_depart P n A h.1)
  where
    go : (t : Bool) → All P (depart n A) → All P (cond t A (v ∷ depart n A))
    go true r = h.1
    go false r = (h.0, r)

unique_depart : (n : ℕ) (A : List Node) → Unique A → Unique (depart n A)
unfolding depart
unique_depart n [] h = tt
unique_depart n (v ∷ A) h = go (eqb v.number n) (unique_depart n A h.1)
  where
    go : (t : Bool) → Unique (depart n A) → Unique (cond t A (v ∷ depart n A))
    go true r = h.1
    go false r = (all_depart (λ w. v.number ≡ w.number → ⊥) n A h.0, r)

length-depart : (n : ℕ) (A : List Node) → length (depart n A) ≤ length A
unfolding depart
length-depart n [] = omega arith
length-depart n (v ∷ A) = go (eqb v.number n) (length-depart n A)
  where
    go : (t : Bool) → length (depart n A) ≤ length A → length (cond t A (v ∷ depart n A)) ≤ suc (length A)
    go true r = omega arith
    go false r = omega arith

-- A change that keeps the number.
all_amend : (P : Node → Type 0) (f : Node → Node) (n : ℕ) (A : List Node) → ((v : Node) → P v → P (f v)) → All P A → All P (amend f n A)
unfolding amend
all_amend P f n [] k h = tt
all_amend P f n (v ∷ A) k h = go (eqb v.number n) (all_amend P f n A k h.1)
  where
    go : (t : Bool) → All P (amend f n A) → All P (cond t (f v ∷ A) (v ∷ amend f n A))
    go true r = (k v h.0, h.1)
    go false r = (h.0, r)

module _ (f : Node → Node) (k : (v : Node) → (f v).number ≡ v.number) (n : ℕ) where
  unique_amend : (A : List Node) → Unique A → Unique (amend f n A)
  unfolding amend
  unique_amend [] h = tt
  unique_amend (v ∷ A) h = go (eqb v.number n) (unique_amend A h.1)
    where
      go : (t : Bool) → Unique (amend f n A) → Unique (cond t (f v ∷ A) (v ∷ amend f n A))
      go true r = (rw (k v) h.0, h.1)
      go false r = (all_amend (λ w. v.number ≡ w.number → ⊥) f n A (λ w g e. g (e ∙ k w)) h.0, r)

  length-amend : (A : List Node) → length (amend f n A) ≡ length A
  unfolding amend
  length-amend [] = refl
  length-amend (v ∷ A) = go (eqb v.number n) (length-amend A)
    where
      go : (t : Bool) → length (amend f n A) ≡ length A → length (cond t (f v ∷ A) (v ∷ amend f n A)) ≡ suc (length A)
      go true r = refl
      go false r = ap suc r

  amend_good : (A : List Node) → GoodNodes A → ((v : Node) → GoodNode v → GoodNode (f v)) → GoodNodes (amend f n A)
  amend_good A m g = record {
    good = all_amend GoodNode f n A g m.good;
    unique = unique_amend A m.unique;
    room = omega (arith, m.room, length-amend A);
  }

-- An arrival.
pub has_none : (n : ℕ) (A : List Node) → has n A ≡ false → Absent n A
unfolding has
has_none n [] h = tt
has_none n (v ∷ A) h = let s = or_split (eqb v.number n) (has n A) h in ((λ e. eqb-false v.number n s.0 (sym e)), has_none n A s.1)

unique_arrive : (A : List Node) (v : Node) → Unique A → Absent v.number A → Unique (arrive v A)
unique_arrive [] v u h = (tt, tt)
unique_arrive (w ∷ A) v u h = (all_append (λ x. w.number ≡ x.number → ⊥) A (v ∷ []) u.0 ((λ e. h.0 (sym e)), tt), unique_arrive A v u.1 h.1)

-- The ranges that an edit's fields have passed.
positions_range : (e : List ℕ) (t : Bool) → (positions_good e && t) ≡ true → (nat_abs (edit_node e).x ≤ farthest) × (nat_abs (edit_node e).y ≤ farthest)
unfolding positions_good position_good edit_node node_from
positions_range e t h =
    let s = and_split (positions_good e) t h in
    let r = and_split (position_good (edit_node e).x) (position_good (edit_node e).y) s.0 in
    (leb-true (nat_abs (edit_node e).x) farthest r.0, leb-true (nat_abs (edit_node e).y) farthest r.1)

size_range : (e : List ℕ) (t : Bool) → (t && capacity_good (capacity_field e)) ≡ true → (1 ≤ (edit_node e).capacity) × ((edit_node e).capacity ≤ most) × ((edit_node e).sort ≤ most_sort)
unfolding capacity_field edit_node node_from
size_range e t h = capacity_range (capacity_field e) (and_split t (capacity_good (capacity_field e)) h).1

module _ (e : List ℕ) (A : List Node) (m : GoodNodes A) (p : Passes e A) where
  pub fresh : kind_of e ≡ 1 → Absent (number_of e) A
  fresh k = has_none (number_of e) A (rw k at p.known)

  not_full : kind_of e ≡ 1 → length A ≡ node_rows → ⊥
  not_full k = eqb-false (length A) node_rows (rw k at p.room)

  arrival_good : kind_of e ≡ 1 → (positions_good e && capacity_good (capacity_field e)) ≡ true → GoodNode (edit_node e)
  unfolding edit_node node_from number_of
  arrival_good k h =
      let f = positions_range e (capacity_good (capacity_field e)) h in
      let c = size_range e (positions_good e) h in
      record { low = p.number; high = nat_high number_size e p.bytes edit_number; across = f.0; up = f.1; least = c.0; most = c.1; sort = c.2 }

  kinds_good : Kind e → GoodNodes (edit_nodes e A)
  unfolding edit_nodes edit_fields
  kinds_good (arrival k) = rw k (record {
    good = all_append GoodNode A (edit_node e ∷ []) m.good (arrival_good k (rw k at p.fields), tt);
    unique = unique_arrive A (edit_node e) m.unique (unfold edit_node number_of node_from in fresh k);
    room = simp length-append (let r : length A ≡ node_rows → ⊥ = not_full k in omega (arith, m.room));
  })
  kinds_good (departure k) = rw k (record {
    good = all_depart GoodNode (number_of e) A m.good;
    unique = unique_depart (number_of e) A m.unique;
    room = omega (arith, m.room, length-depart (number_of e) A);
  })
  kinds_good (move k) = rw k (amend_good (moved (edit_node e).x (edit_node e).y) (λ v. refl) (number_of e) A m
      (λ v g. let f = positions_range e (eqb (capacity_field e) 0) (rw k at p.fields) in
      record { low = g.low; high = g.high; across = f.0; up = f.1; least = g.least; most = g.most; sort = g.sort }))
  kinds_good (capacity k) = rw k (amend_good (resized (edit_node e).capacity (edit_node e).sort) (λ v. refl) (number_of e) A m
      (λ v g. let f = size_range e (positions_zero e) (rw k at p.fields) in
      record { low = g.low; high = g.high; across = g.across; up = g.up; least = f.0; most = f.1; sort = f.2 }))

  pub edit_good : GoodNodes (edit_nodes e A)
  edit_good = kinds_good (kind_cases e p.least p.most)
