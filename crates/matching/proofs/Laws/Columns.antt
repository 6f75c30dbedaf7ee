-- Laws of lists by index.
use Prim.Native.Nat.{ℕ, zero, suc, ◌+◌, ◌<◌, ◌≤◌}
use Rattle.std.specs.Prelude.{◌≡◌, length, get_or}
use Rattle.std.proofs.Math.Path.{refl, ap, ap₂}
use Rattle.std.proofs.Common.{sym, ◌∙◌}
use mathlib.Core.List.{List, [], ◌∷◌, ◌++◌, map}
use native.Mathlib.Omega.{arith}
use Rattle.matching.specs.Definitions.Lists.{All}
use Rattle.matching.specs.Definitions.Nodes.{Node, Unique}
use Rattle.matching.specs.Definitions.Columns.{tabulate}
use Rattle.matching.proofs.Laws.Lists.{all_get}

module _ {X : Type 0} where
  pub tabulate-length : (f : ℕ → X) (k n : ℕ) → length (tabulate f k n) ≡ n
  unfolding tabulate
  tabulate-length f k zero = refl
  tabulate-length f k (suc n) = ap suc (tabulate-length f (suc k) n)

  pub tabulate_get : (f : ℕ → X) (k n i : ℕ) (d : X) → i < n → get_or (tabulate f k n) i d ≡ f (k + i)
  unfolding tabulate
  tabulate_get f k zero i d h = absurd (omega arith)
  tabulate_get f k (suc n) zero d h = ap f (omega arith)
  tabulate_get f k (suc n) (suc i) d h = tabulate_get f (suc k) n i d (omega arith) ∙ ap f (omega arith)

  pub tabulate_all : (P : X → Type 0) (f : ℕ → X) (k n : ℕ) → ((i : ℕ) → k ≤ i → i < k + n → P (f i)) → All P (tabulate f k n)
  unfolding tabulate
  tabulate_all P f k zero h = tt
  tabulate_all P f k (suc n) h = (h k (omega arith) (omega arith), tabulate_all P f (suc k) n (λ i l g. h i (omega arith) (omega arith)))

  pub tabulate_cong : (f g : ℕ → X) (k n : ℕ) → ((i : ℕ) → k ≤ i → i < k + n → f i ≡ g i) → tabulate f k n ≡ tabulate g k n
  unfolding tabulate
  tabulate_cong f g k zero h = refl
  tabulate_cong f g k (suc n) h = λ t. h k (omega arith) (omega arith) t ∷ tabulate_cong f g (suc k) n (λ i l m. h i (omega arith) (omega arith)) t

  pub tabulate_snoc : (f : ℕ → X) (k n : ℕ) → tabulate f k (suc n) ≡ tabulate f k n ++ (f (k + n) ∷ [])
  unfolding tabulate
  tabulate_snoc f k zero = ap (λ (i : ℕ). f i ∷ []) (omega arith)
  tabulate_snoc f k (suc n) = ap (λ (l : List X). f k ∷ l) (tabulate_snoc f (suc k) n ∙ ap (λ (i : ℕ). tabulate f (suc k) n ++ (f i ∷ [])) (omega arith))

  pub map-tabulate : {Y : Type 0} (g : X → Y) (f : ℕ → X) (k n : ℕ) → map g (tabulate f k n) ≡ tabulate (λ i. g (f i)) k n
  unfolding tabulate
  map-tabulate g f k zero = refl
  map-tabulate g f k (suc n) = ap (λ l. g (f k) ∷ l) (map-tabulate g f (suc k) n)

  -- In two.
  pub tabulate_split : (f : ℕ → X) (k m n : ℕ) → tabulate f k (m + n) ≡ tabulate f k m ++ tabulate f (k + m) n
  unfolding tabulate
  tabulate_split f k zero n =
      let i : k ≡ k + 0 = omega arith in
      let j : 0 + n ≡ n = omega arith in
      ap₂ (tabulate f) i j
  tabulate_split f k (suc m) n =
      let i : suc k + m ≡ k + suc m = omega arith in
      let j : suc m + n ≡ suc (m + n) = omega arith in
      rw j (ap (λ (r : List X). f k ∷ r) (tabulate_split f (suc k) m n ∙ ap (λ (s : ℕ). tabulate f (suc k) m ++ tabulate f s n) i))

-- Two nodes with the same number stand at the same place.
pub same_place : (A : List Node) (i k : ℕ) (d : Node) → Unique A → i < length A → k < length A → (get_or A i d).number ≡ (get_or A k d).number → i ≡ k
same_place [] i k d u h g e = absurd (omega arith)
same_place (v ∷ A) zero zero d u h g e = refl
same_place (v ∷ A) zero (suc k) d u h g e = absurd (all_get (λ w. v.number ≡ w.number → ⊥) A k d (omega arith) u.0 e)
same_place (v ∷ A) (suc i) zero d u h g e = absurd (all_get (λ w. v.number ≡ w.number → ⊥) A i d (omega arith) u.0 (sym e))
same_place (v ∷ A) (suc i) (suc k) d u h g e = ap suc (same_place A i k d u.1 (omega arith) (omega arith) e)
