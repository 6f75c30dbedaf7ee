-- Lists in another order.
use Rattle.std.specs.Prelude.{ℕ, suc, ◌+◌, ◌<◌, ◌≤◌, ◌≡◌, eqb, length}
use Rattle.std.proofs.Math.Path.{refl, ap, ap₂}
use Rattle.std.proofs.Common.{sym, ◌∙◌, subst, length-append, eq-eqb, ne_eqb}
use Rattle.std.proofs.Math.Bool.{cond}
use mathlib.Core.List.{List, [], ◌∷◌, ◌++◌, map, append-nil, Memᴰ}
use Rattle.std.proofs.Math.Decide.{dec_lt}
use native.Mathlib.Omega.{arith}
use Rattle.matching.specs.Definitions.Lists.{All, sum_over, Reordered, same, swap, skip, then}

module _ {X : Type 0} where
  pub reordered_length : {A C : List X} → Reordered A C → length A ≡ length C
  reordered_length same = refl
  reordered_length (swap v w) = refl
  reordered_length (skip v r) = ap suc (reordered_length r)
  reordered_length (then r s) = reordered_length r ∙ reordered_length s

  -- What is reordered can be put back.
  pub reordered_back : {A C : List X} → Reordered A C → Reordered C A
  reordered_back same = same
  reordered_back (swap v w) = swap w v
  reordered_back (skip v r) = skip v (reordered_back r)
  reordered_back (then r s) = then (reordered_back s) (reordered_back r)

  -- A property of every element is one in any order.
  pub reordered_all : (P : X → Type 0) {A C : List X} → Reordered A C → All P A → All P C
  reordered_all P same h = h
  reordered_all P (swap v w) h = (h.1.0, (h.0, h.1.1))
  reordered_all P (skip v r) h = (h.0, reordered_all P r h.1)
  reordered_all P (then r s) h = reordered_all P s (reordered_all P r h)

  -- An element stays one,
  reordered_in : {x : X} {A C : List X} → Reordered A C → Memᴰ x A → Memᴰ x C
  reordered_in same i = i
  reordered_in (swap v w) (Memᴰ.head e) = Memᴰ.tail (Memᴰ.head e)
  reordered_in (swap v w) (Memᴰ.tail (Memᴰ.head e)) = Memᴰ.head e
  reordered_in (swap v w) (Memᴰ.tail (Memᴰ.tail i)) = Memᴰ.tail (Memᴰ.tail i)
  reordered_in (skip v r) (Memᴰ.head e) = Memᴰ.head e
  reordered_in (skip v r) (Memᴰ.tail i) = Memᴰ.tail (reordered_in r i)
  reordered_in (then r s) i = reordered_in s (reordered_in r i)

  -- and can be brought to the front.
  record Front (x : X) (K : List X) : Type 0 where
    pub rest : List X
    pub order : Reordered K (x ∷ rest)

  front : {x : X} (K : List X) → Memᴰ x K → Front x K
  front [] i = elim i [ ]
  front (k ∷ K) (Memᴰ.head e) = record { rest = K; order = subst (λ (y : X). Reordered (k ∷ K) (y ∷ K)) (sym e) same }
  front {x} (k ∷ K) (Memᴰ.tail i) = let f = front K i in record { rest = k ∷ f.rest; order = then (skip k f.order) (swap k x) }

  -- Sums stay.
  pub reordered_sum : (f : X → ℕ) {A C : List X} → Reordered A C → sum_over f A ≡ sum_over f C
  unfolding sum_over
  reordered_sum f same = refl
  reordered_sum f (swap v w {A = A}) = let s = sum_over f A in omega arith
  reordered_sum f (skip v r) = ap (λ (s : ℕ). f v + s) (reordered_sum f r)
  reordered_sum f (then r s) = reordered_sum f r ∙ reordered_sum f s

pub sum_of_map : {X Y : Type 0} (g : Y → ℕ) (f : X → Y) (J : List X) → sum_over g (map f J) ≡ sum_over (λ x. g (f x)) J
unfolding sum_over
sum_of_map g f [] = refl
sum_of_map g f (x ∷ J) = ap (λ (s : ℕ). g (f x) + s) (sum_of_map g f J)

-- f makes no two elements of a list the same.
module _ {X Y : Type 0} (f : X → Y) where
  abbrev pub Apart : List X → Type 0
  Apart [] = Unit {0}
  Apart (x ∷ J) = All (λ (y : X). f x ≡ f y → ⊥) J × Apart J

  -- Where all that f makes of J is in K, K is that and some more.
  record Covered (J : List X) (K : List Y) : Type 0 where
    pub more : List Y
    pub order : Reordered K (map f J ++ more)

  cover : (J : List X) (K : List Y) → All (λ (x : X). Memᴰ (f x) K) J → Apart J → Covered J K
  cover [] K h a = record { more = K; order = same }
  cover (x ∷ J) K h a = go (front K h.0) (λ R i. cover J R i a.1)
    where
      left : (R : List Y) (y : X) → (f x ≡ f y → ⊥) → Memᴰ (f y) (f x ∷ R) → Memᴰ (f y) R
      left R y d (Memᴰ.head e) = absurd (d (sym e))
      left R y d (Memᴰ.tail i) = i

      within : (R : List Y) → Reordered K (f x ∷ R) → (L : List X) → All (λ (y : X). Memᴰ (f y) K) L → All (λ (y : X). f x ≡ f y → ⊥) L
          → All (λ (y : X). Memᴰ (f y) R) L
      within R r [] i d = tt
      within R r (y ∷ L) i d = (left R y d.0 (reordered_in r i.0), within R r L i.1 d.1)

      go : Front (f x) K → ((R : List Y) → All (λ (y : X). Memᴰ (f y) R) J → Covered J R) → Covered (x ∷ J) K
      go s rest = let c = rest s.rest (within s.rest s.order J h.1 a.0) in record { more = c.more; order = then s.order (skip (f x) c.order) }

  map-length : (J : List X) → length (map f J) ≡ length J
  map-length [] = refl
  map-length (x ∷ J) = ap suc (map-length J)

  cover_length : (J : List X) (K : List Y) → (c : Covered J K) → length K ≡ length J + length c.more
  cover_length J K c = reordered_length c.order ∙ length-append (map f J) c.more ∙ ap (λ (n : ℕ). n + length c.more) (map-length J)

-- Two lists, each of which has what the other becomes, are the same in another order.
none_left : {Y : Type 0} (R : List Y) → length R ≡ 0 → R ≡ []
none_left [] e = refl
none_left (y ∷ R) e = absurd (omega arith)

pub same_elements : {X Y : Type 0} (f : X → Y) (g : Y → X) (J : List X) (K : List Y) → All (λ (x : X). Memᴰ (f x) K) J → All (λ (y : Y). Memᴰ (g y) J) K
    → Apart f J → Apart g K → Reordered (map f J) K
same_elements {Y = Y} f g J K h i a b =
    reordered_back (subst (λ (L : List Y). Reordered K L) (ap (λ (R : List Y). map f J ++ R) none ∙ append-nil (map f J)) c.order)
  where
    c : Covered f J K
    c = cover f J K h a

    d : Covered g K J
    d = cover g K J i b

    none : c.more ≡ []
    none = none_left c.more (omega (arith, cover_length f J K c, cover_length g K J d))

-- Lists in ascending order of a number that have each number equally often have the same numbers in the same places.
module _ {X : Type 0} (d : X → ℕ) where
  abbrev pub Ascending : List X → Type 0
  Ascending [] = Unit {0}
  Ascending (x ∷ J) = All (λ (y : X). d x ≤ d y) J × Ascending J

  abbrev pub counted : ℕ → List X → ℕ
  counted n J = sum_over (λ (x : X). cond (eqb (d x) n) 1 0) J

  counted_here : (x : X) (J : List X) → counted (d x) (x ∷ J) ≡ suc (counted (d x) J)
  unfolding sum_over
  counted_here x L = rw (eq-eqb (d x) (d x) refl) (omega arith)

  counted_none : (n : ℕ) (J : List X) → All (λ (y : X). n < d y) J → counted n J ≡ 0
  unfolding sum_over
  counted_none n [] h = refl
  counted_none n (y ∷ J) h = let z : d y ≡ n → ⊥ = λ e. omega (arith, h.0) in rw (ne_eqb (d y) n z) (omega (arith, counted_none n J h.1))

  below : (n m : ℕ) (J : List X) → n < m → All (λ (y : X). m ≤ d y) J → All (λ (y : X). n < d y) J
  below n m [] l h = tt
  below n m (y ∷ J) l h = (omega (arith, h.0), below n m J l h.1)

  least : (x y : X) (J K : List X) → Ascending (y ∷ K) → counted (d x) (x ∷ J) ≡ counted (d x) (y ∷ K) → d x < d y → ⊥
  least x y J K b e l = omega (arith, counted_here x J, e, counted_none (d x) (y ∷ K) (l, below (d x) (d y) K l b.0))

  cancel : (x y : X) (J K : List X) → d x ≡ d y → ((n : ℕ) → counted n (x ∷ J) ≡ counted n (y ∷ K)) → (n : ℕ) → counted n J ≡ counted n K
  unfolding sum_over
  cancel x y J K e h n = go (cond (eqb (d y) n) 1 0) (ap (λ (k : ℕ). cond (eqb k n) 1 0) e) (h n)
    where
      go : (k : ℕ) → cond (eqb (d x) n) 1 0 ≡ k → cond (eqb (d x) n) 1 0 + counted n J ≡ k + counted n K → counted n J ≡ counted n K
      go k p q = omega arith

  pub ascending_same : (J K : List X) → Ascending J → Ascending K → ((n : ℕ) → counted n J ≡ counted n K) → map d J ≡ map d K
  unfolding sum_over
  ascending_same [] [] a b h = refl
  ascending_same [] (y ∷ K) a b h = absurd (omega (arith, h (d y), counted_here y K))
  ascending_same (x ∷ J) [] a b h = absurd (omega (arith, h (d x), counted_here x J))
  ascending_same (x ∷ J) (y ∷ K) a b h =
      ap₂ (λ (n : ℕ) (L : List ℕ). n ∷ L) head (ascending_same J K a.1 b.1 (cancel x y J K head h))
    where
      head : d x ≡ d y
      head = go (dec_lt (d x) (d y)) (dec_lt (d y) (d x))
        where
          go : Dec (d x < d y) → Dec (d y < d x) → d x ≡ d y
          go (yes l) m = absurd (least x y J K b (h (d x)) l)
          go (no l) (yes m) = absurd (least y x K J a (sym (h (d y))) m)
          go (no l) (no m) = omega arith
