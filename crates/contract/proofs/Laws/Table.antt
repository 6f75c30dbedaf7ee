-- The first place that fits, in any order of the places: it is given exactly when its condition holds and no earlier one does.
use Rattle.std.specs.Prelude.{ℕ, ◌≡◌, Bool, true, false, cond, ◌↔◌, Option, None, Some}
use Rattle.std.proofs.Math.Path.{refl}
use Rattle.std.proofs.Common.{ap, inl, inr, arith, eqb-true}
use mathlib.Core.List.{List, [], ◌∷◌}
use Rattle.std.proofs.lemmas.Bool.{eqb-false}
use Rattle.matching.specs.Definitions.Lists.{All}
use Rattle.contract.specs.Definitions.Answers.{Answer, refused, refusal_number}
use Rattle.contract.specs.declared.Refusal.{Refusal}
use Rattle.contract.specs.Definitions.Refusals.{same, given, first_of}
use Rattle.contract.specs.Definitions.Conditions.{FirstOf, here, below}
use Rattle.contract.proofs.Laws.Order.{In, same_number}

pub nothing : {X : Type 0} {x : X} → None ≡ Some x → ⊥
nothing e = let z : ◌≡◌ {A = ℕ} 0 1 = cc in omega arith

-- Where nothing is given, no place fits.
pub none_fits : (f : Refusal → Option ℕ) (rs : List Refusal) → first_of f rs ≡ None → (r : Refusal) → In r rs → f r ≡ None
unfolding first_of
none_fits f [] e r i = absurd i
none_fits f (p ∷ rs) e r i = go (f p) refl e i (λ g j. none_fits f rs g r j)
  where
    go : (o : Option ℕ) → f p ≡ o → given p o (first_of f rs) ≡ None → In r (p ∷ rs) → (first_of f rs ≡ None → In r rs → f r ≡ None) → f r ≡ None
    go None n g (inl j) k = rw j n
    go None n g (inr j) k = k g j
    go (Some v) n g j k = absurd (let z : ◌≡◌ {A = ℕ} 0 1 = cc in omega arith)

-- The refusals ahead of r.
abbrev pub ahead_of : Refusal → List Refusal → List Refusal
ahead_of r [] = []
ahead_of r (p ∷ rs) = cond (same r p) [] (p ∷ ahead_of r rs)

-- Where none of these fits, and r does, r is given.
pub first_at : (f : Refusal → Option ℕ) (rs : List Refusal) (r : Refusal) (v : ℕ) → All (λ p. f p ≡ None) (ahead_of r rs) → In r rs → f r ≡ Some v → first_of f rs ≡ Some (refused r v)
unfolding first_of
first_at f [] r v h i e = absurd i
first_at f (p ∷ rs) r v h i e = go (same r p) refl h i (first_at f rs r v)
  where
    go : (b : Bool) → same r p ≡ b → All (λ p. f p ≡ None) (cond b [] (p ∷ ahead_of r rs)) → In r (p ∷ rs)
        → (All (λ p. f p ≡ None) (ahead_of r rs) → In r rs → f r ≡ Some v → first_of f rs ≡ Some (refused r v)) → given p (f p) (first_of f rs) ≡ Some (refused r v)
    go true j h i k = rw (← same_number r p (eqb-true (refusal_number r) (refusal_number p) j), e)
    go false j h (inl i) k = absurd (eqb-false (refusal_number r) (refusal_number p) j (ap refusal_number i))
    go false j h (inr i) k = rw h.0 (k h.1 i e)

-- The first that holds does hold.
pub first_holds : {H : Refusal → ℕ → Type 0} {r : Refusal} {v : ℕ} (rs : List Refusal) → FirstOf H r v rs → H r v
first_holds rs (here h) = h
first_holds rs (below {rs = ps} n f) = first_holds ps f

-- A refusal that is the first to hold.
pub record Found (H : Refusal → ℕ → Type 0) (rs : List Refusal) (x : Answer) : Type 0 where
  pub refusal : Refusal
  pub value : ℕ
  pub is_refused : x ≡ refused refusal value
  pub first : FirstOf H refusal value rs

-- Places f that fit exactly where the conditions H hold.
module _ (H : Refusal → ℕ → Type 0) (f : Refusal → Option ℕ) (right : (r : Refusal) (v : ℕ) → (f r ≡ Some v) ↔ H r v) where
  empty : (r : Refusal) → f r ≡ None → (u : ℕ) → ¬ H r u
  empty r e u k = let g : f r ≡ Some u = (right r u).1 k in nothing (let z : None ≡ Some u = cc in z)

  pub first_only : (rs : List Refusal) (x : Answer) → first_of f rs ≡ Some x → Found H rs x
  unfolding first_of
  first_only [] x e = absurd (nothing e)
  first_only (p ∷ rs) x e = go (f p) refl e (first_only rs x)
    where
      go : (o : Option ℕ) → f p ≡ o → given p o (first_of f rs) ≡ Some x → (first_of f rs ≡ Some x → Found H rs x) → Found H (p ∷ rs) x
      go None n g k = let r = k g in record { refusal = r.refusal; value = r.value; is_refused = r.is_refused; first = below (empty p n) r.first }
      go (Some v) n g k = record { refusal = p; value = v; is_refused = cc; first = here ((right p v).0 n) }

  pub first_when : (r : Refusal) (v : ℕ) (rs : List Refusal) → FirstOf H r v rs → first_of f rs ≡ Some (refused r v)
  unfolding first_of
  first_when r v rs (here {rs = ps} k) = rw ((right r v).1 k)
  first_when r v rs (below {p = p} {rs = ps} n k) = go (f p) refl (first_when r v ps k)
    where
      go : (o : Option ℕ) → f p ≡ o → first_of f ps ≡ Some (refused r v) → given p o (first_of f ps) ≡ Some (refused r v)
      go None e i = i
      go (Some u) e i = absurd (n u ((right p u).0 e))

  -- Where nothing is given, no condition holds.
  pub none_holds : (rs : List Refusal) → first_of f rs ≡ None → (r : Refusal) → In r rs → (u : ℕ) → ¬ H r u
  none_holds rs e r i = empty r (none_fits f rs e r i)
