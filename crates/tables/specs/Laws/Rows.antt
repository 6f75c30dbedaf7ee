-- Laws of rows and searches.
use Rattle.std.specs.Prelude.{ℕ, zero, suc, ◌+◌, ◌*◌, ◌-◌, ◌<◌, ◌≤◌, ◌≡◌, refl, Bool, true, false, cond, ◌||◌, List, [], ◌∷◌, ◌++◌, Some, None, length, take, drop, set, replicate}
use Rattle.std.proofs.Common.{sym, ◌∙◌, ap, ap₂, append_assoc, mul-suc, arith, take-append-drop, length-append, length-take, length-drop, length-set, drop-set-lt, take-suc-set}
use Rattle.std.proofs.Math.Decide.{ℕ_discrete}
use Rattle.std.proofs.Math.Seq.{take-append-add, drop-append-add}
pub use Rattle.matching.proofs.Laws.Common.{and_split}
use Rattle.tables.specs.Definitions.Rows.{flat, put, first_from, all_from}

pub or_split : (s t : Bool) → (s || t) ≡ false → (s ≡ false) × (t ≡ false)
or_split true t e = absurd (let z : ◌≡◌ {A = ℕ} 0 1 = cc in omega arith)
or_split false t e = (refl, e)

-- The first place of a search: none,
pub none_from : (p : ℕ → Bool) (n k j : ℕ) → first_from p k n ≡ None → k ≤ j → j < k + n → p j ≡ false
unfolding first_from
none_from p zero k j e h g = absurd (omega arith)
none_from p (suc n) k j e h g = go (p k) refl (ℕ_discrete k j) e (none_from p n (suc k) j)
  where
    go : (t : Bool) → p k ≡ t → Dec (k ≡ j) → cond t (Some k) (first_from p (suc k) n) ≡ None
        → (first_from p (suc k) n ≡ None → suc k ≤ j → j < suc k + n → p j ≡ false) → p j ≡ false
    go true i d e r = let z : ◌≡◌ {A = ℕ} 0 1 = cc in absurd (omega arith)
    go false i (yes d) e r = rw (← d) i
    go false i (no d) e r = r e (omega arith) (omega arith)

pub from_none : (p : ℕ → Bool) (n k : ℕ) → ((j : ℕ) → k ≤ j → j < k + n → p j ≡ false) → first_from p k n ≡ None
unfolding first_from
from_none p zero k h = refl
from_none p (suc n) k h = rw (h k (omega arith) (omega arith)) (from_none p n (suc k) (λ j g l. h j (omega arith) (omega arith)))

-- or one, with what holds there and ahead of it.
pub record First (p : ℕ → Bool) (k n j : ℕ) : Type 0 where
  pub from : k ≤ j
  pub low : j < k + n
  pub here : p j ≡ true
  pub ahead : (i : ℕ) → k ≤ i → i < j → p i ≡ false

pub first_is : (p : ℕ → Bool) (n k j : ℕ) → First p k n j → first_from p k n ≡ Some j
unfolding first_from
first_is p zero k j f = absurd (omega (arith, f.from, f.low))
first_is p (suc n) k j f = go (ℕ_discrete k j) (first_is p n (suc k) j)
  where
    go : Dec (k ≡ j) → (First p (suc k) n j → first_from p (suc k) n ≡ Some j) → cond (p k) (Some k) (first_from p (suc k) n) ≡ Some j
    go (yes d) r = rw (d, f.here)
    go (no d) r = rw (f.ahead k (omega arith) (omega (arith, f.from)))
        (r (record { from = omega (arith, f.from); low = omega (arith, f.low); here = f.here; ahead = λ i a b. f.ahead i (omega arith) b }))

pub some_from : (p : ℕ → Bool) (n k j : ℕ) → first_from p k n ≡ Some j → First p k n j
unfolding first_from
some_from p zero k j e = absurd (let z : ◌≡◌ {A = ℕ} 0 1 = cc in omega arith)
some_from p (suc n) k j e = go (p k) refl e (some_from p n (suc k) j)
  where
    go : (t : Bool) → p k ≡ t → cond t (Some k) (first_from p (suc k) n) ≡ Some j → (first_from p (suc k) n ≡ Some j → First p (suc k) n j) → First p k (suc n) j
    go true i e r = let g : k ≡ j = cc in record { from = omega arith; low = omega arith; here = rw (← g) i; ahead = λ m a b. absurd (omega arith) }
    go false i e r =
        let f = r e in
        record {
          from = omega (arith, f.from);
          low = omega (arith, f.low);
          here = f.here;
          ahead = λ m a b. next m a b (ℕ_discrete k m) f;
        }
      where
        next : (m : ℕ) → k ≤ m → m < j → Dec (k ≡ m) → First p (suc k) n j → p m ≡ false
        next m a b (yes d) f = rw (← d) i
        next m a b (no d) f = f.ahead m (omega arith) b

-- All places.
pub all_from_lem : (p : ℕ → Bool) (k n : ℕ) → ((j : ℕ) → k ≤ j → j < k + n → p j ≡ true) → all_from p k n ≡ true
unfolding all_from
all_from_lem p k zero f = refl
all_from_lem p k (suc n) f = rw (f k (omega arith) (omega arith)) (all_from_lem p (suc k) n (λ j h g. f j (omega arith) (omega arith)))

pub from_all : (p : ℕ → Bool) (k n j : ℕ) → all_from p k n ≡ true → k ≤ j → j < k + n → p j ≡ true
unfolding all_from
from_all p k zero j e h g = absurd (omega arith)
from_all p k (suc n) j e h g = go (ℕ_discrete k j) (and_split (p k) (all_from p (suc k) n) e) (from_all p (suc k) n j)
  where
    go : Dec (k ≡ j) → (p k ≡ true) × (all_from p (suc k) n ≡ true) → (all_from p (suc k) n ≡ true → suc k ≤ j → j < suc k + n → p j ≡ true) → p j ≡ true
    go (yes d) s r = rw (← d) s.0
    go (no d) s r = r s.1 (omega arith) (omega arith)

-- Zero bytes.
abbrev pub zeros : ℕ → List ℕ
zeros m = replicate m 0

pub drop-zeros : (i m : ℕ) → drop i (zeros m) ≡ zeros (m - i)
drop-zeros zero m = ap zeros same
  where
    same : m ≡ m - 0
    same = omega arith
drop-zeros (suc i) zero = ap zeros same
  where
    same : 0 ≡ 0 - suc i
    same = omega arith
drop-zeros (suc i) (suc m) = drop-zeros i m ∙ ap zeros same
  where
    same : m - i ≡ suc m - suc i
    same = omega arith

-- Rows one after the other.
pub flat_append : {X : Type 0} (row : X → List ℕ) (xs ys : List X) → flat row (xs ++ ys) ≡ flat row xs ++ flat row ys
unfolding flat
flat_append row [] ys = refl
flat_append row (x ∷ xs) ys = ap (λ (r : List ℕ). row x ++ r) (flat_append row xs ys) ∙ sym (append_assoc (row x) (flat row xs) (flat row ys))

pub flat-length : {X : Type 0} (row : X → List ℕ) (w : ℕ) → ((x : X) → length (row x) ≡ w) → (xs : List X) → length (flat row xs) ≡ w * length xs
unfolding flat
flat-length row w h [] = omega arith
flat-length row w h (x ∷ xs) = length-append (row x) (flat row xs) ∙ rw (h x, flat-length row w h xs, mul-suc) (omega arith)

pub put_after : (P Q vs : List ℕ) (i : ℕ) → put (P ++ Q) (length P + i) vs ≡ P ++ put Q i vs
unfolding put
put_after P Q vs i =
    rw (take-append-add P Q i) (append_assoc P (take i Q) (vs ++ drop (length P + i + length vs) (P ++ Q))
    ∙ ap (λ (r : List ℕ). P ++ (take i Q ++ (vs ++ r))) (ap (λ (j : ℕ). drop j (P ++ Q)) sums ∙ drop-append-add P Q (i + length vs)))
  where
    sums : length P + i + length vs ≡ length P + (i + length vs)
    sums = omega arith

-- Bytes put one by one, and one part after the other.
pub put_none : (xs : List ℕ) (i : ℕ) → put xs i [] ≡ xs
unfolding put
put_none xs i = ap (λ (j : ℕ). take i xs ++ drop j xs) same ∙ take-append-drop i xs
  where
    same : i + 0 ≡ i
    same = omega arith

pub put_cons : (xs : List ℕ) (i v : ℕ) (vs : List ℕ) → i < length xs → put xs i (v ∷ vs) ≡ put (set xs i v) (suc i) vs
unfolding put
put_cons xs i v vs h =
    ap (λ (j : ℕ). take i xs ++ v ∷ (vs ++ drop j xs)) rows
    ∙ sym (append_assoc (take i xs) (v ∷ []) (vs ++ drop (suc i + length vs) xs))
    ∙ ap₂ (λ (l r : List ℕ). l ++ (vs ++ r)) (sym (take-suc-set xs i v h)) (sym (drop-set-lt (suc i + length vs) xs i v (omega arith)))
  where
    rows : i + suc (length vs) ≡ suc i + length vs
    rows = omega arith

pub put_length : (xs : List ℕ) (i : ℕ) (vs : List ℕ) → i + length vs ≤ length xs → length (put xs i vs) ≡ length xs
unfolding put
put_length xs i vs h = simp (length-append, length-take, length-drop) (omega arith)

pub put-put : (u v xs : List ℕ) (i : ℕ) → i + length u ≤ length xs → put (put xs i u) (i + length u) v ≡ put xs i (u ++ v)
put-put [] v xs i h = ap₂ (λ (ys : List ℕ) (j : ℕ). put ys j v) (put_none xs i) same
  where
    same : i + 0 ≡ i
    same = omega arith
put-put (x ∷ u) v xs i h =
    ap₂ (λ (ys : List ℕ) (j : ℕ). put ys j v) (put_cons xs i x u (omega arith)) rows
    ∙ put-put u v (set xs i x) (suc i) (rw (length-set xs i x) (omega arith))
    ∙ sym (put_cons xs i x (u ++ v) (omega arith))
  where
    rows : i + suc (length u) ≡ suc i + length u
    rows = omega arith
