-- Which edit takes another back: an arrival and the departure, a departure and the arrival, a change and the one back.
use Prim.Native.Nat.{ℕ, suc}
use Rattle.std.specs.Prelude.{◌≡◌, Bool, true, false, ◌||◌, eqb, length}
use Rattle.std.proofs.Math.Path.{refl}
use Rattle.std.proofs.Common.{sym, ◌∙◌, ap}
use mathlib.Core.List.{List, [], ◌∷◌, Memᴰ}
use Rattle.std.proofs.Math.Decide.{ℕ_discrete}
use borrow.Author.Tests.{eq-eqb, ne_eqb}
use Rattle.matching.specs.Definitions.Lists.{Reordered, same, swap, skip, then}
use Rattle.matching.specs.Definitions.Nodes.{Node, Absent, Unique, has}
use Rattle.matching.specs.Definitions.Edits.{arrive, depart, amend}
use Rattle.matching.proofs.Laws.Lists.{all_at}

-- A number that no node has.
pub absent_has : (n : ℕ) (A : List Node) → Absent n A → has n A ≡ false
unfolding has
absent_has n [] h = refl
absent_has n (v ∷ A) h = rw (ne_eqb v.number n (λ e. h.0 (sym e))) (absent_has n A h.1)

-- The number of an arrival is there; its departure leaves the nodes as they were.
pub arrived : (v : Node) (A : List Node) → has v.number (arrive v A) ≡ true
unfolding has
arrived v [] = rw (eq-eqb v.number v.number refl)
arrived v (w ∷ A) = go (eqb w.number v.number) (arrived v A)
  where
    go : (t : Bool) → has v.number (arrive v A) ≡ true → (t || has v.number (arrive v A)) ≡ true
    go true r = refl
    go false r = r

pub arrive-depart : (v : Node) (A : List Node) → Absent v.number A → depart v.number (arrive v A) ≡ A
unfolding depart
arrive-depart v [] h = rw (eq-eqb v.number v.number refl)
arrive-depart v (w ∷ A) h = rw (ne_eqb w.number v.number (λ e. h.0 (sym e))) (ap (λ (C : List Node). w ∷ C) (arrive-depart v A h.1))

-- A node v of the list, the only one with its number.
module _ (v : Node) where
  other : (w : Node) {A : List Node} → Absent w.number A → Memᴰ v A → w.number ≡ v.number → ⊥
  other w h i = all_at (λ u. w.number ≡ u.number → ⊥) h i

  -- Departed it leaves a row and its number free; its arrival puts it last.
  pub departed_absent : {A : List Node} → Unique A → Memᴰ v A → Absent v.number (depart v.number A)
  unfolding depart
  departed_absent u (Memᴰ.head {x = w} e) = rw (eq-eqb w.number v.number (ap (λ (x : Node). x.number) (sym e)), e) u.0
  departed_absent u (Memᴰ.tail {x = w} i) =
      rw (ne_eqb w.number v.number (other w u.0 i)) ((λ e. other w u.0 i (sym e)), departed_absent u.1 i)

  pub departed_length : {A : List Node} → Unique A → Memᴰ v A → suc (length (depart v.number A)) ≡ length A
  unfolding depart
  departed_length u (Memᴰ.head {x = w} e) = rw (eq-eqb w.number v.number (ap (λ (x : Node). x.number) (sym e)))
  departed_length u (Memᴰ.tail {x = w} i) = rw (ne_eqb w.number v.number (other w u.0 i)) (ap suc (departed_length u.1 i))

  put_last : (A : List Node) → Reordered (arrive v A) (v ∷ A)
  put_last [] = same
  put_last (w ∷ A) = then (skip w (put_last A)) (swap w v)

  pub depart-arrive : {A : List Node} → Unique A → Memᴰ v A → Reordered (arrive v (depart v.number A)) A
  unfolding depart
  depart-arrive u (Memᴰ.head {x = w} {xs = A} e) = rw (eq-eqb w.number v.number (ap (λ (x : Node). x.number) (sym e)), ← e) (put_last A)
  depart-arrive u (Memᴰ.tail {x = w} i) = rw (ne_eqb w.number v.number (other w u.0 i)) (skip w (depart-arrive u.1 i))

-- A change f that keeps the numbers keeps them all there;
module _ (f : Node → Node) (keeps : (v : Node) → (f v).number ≡ v.number) where
  pub amended_has : (n : ℕ) (A : List Node) → has n (amend f n A) ≡ has n A
  unfolding has amend
  amended_has n [] = refl
  amended_has n (v ∷ A) = go (ℕ_discrete v.number n) (amended_has n A)
    where
      go : Dec (v.number ≡ n) → has n (amend f n A) ≡ has n A → has n (amend f n (v ∷ A)) ≡ has n (v ∷ A)
      go (yes e) r = rw (eq-eqb v.number n e, eq-eqb (f v).number n (keeps v ∙ e))
      go (no e) r = rw (ne_eqb v.number n e, ne_eqb v.number n e) r

  -- a change g of the same node that leads it back leaves the nodes as they were.
  pub amend_back : (g : Node → Node) (v : Node) → g (f v) ≡ v → {A : List Node} → Unique A → Memᴰ v A → amend g v.number (amend f v.number A) ≡ A
  unfolding amend
  amend_back g v b u (Memᴰ.head {x = w} {xs = A} e) =
      rw (← e, eq-eqb v.number v.number refl, eq-eqb (f v).number v.number (keeps v)) (ap (λ (x : Node). x ∷ A) b)
  amend_back g v b u (Memᴰ.tail {x = w} i) =
      let apart : w.number ≡ v.number → ⊥ = other v w u.0 i in
      rw (ne_eqb w.number v.number apart, ne_eqb w.number v.number apart) (ap (λ (C : List Node). w ∷ C) (amend_back g v b u.1 i))
