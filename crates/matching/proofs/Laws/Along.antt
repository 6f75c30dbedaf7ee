-- The links taken along a list of pairs: which pairs they are of, their amounts and their order.
use Rattle.std.specs.Prelude.{ℕ, zero, suc, ◌≤◌, ◌≡◌, refl, ◌&&◌, false, eqb}
use Rattle.std.proofs.Common.{ap, arith, eq-eqb, ne_eqb}
use mathlib.Core.List.{List, [], ◌∷◌, Memᴰ}
use Rattle.std.proofs.Math.Decide.{ℕ_discrete}
use Rattle.matching.specs.Definitions.Lists.{All}
use Rattle.matching.specs.Definitions.Pairs.{Pair, Before}
use Rattle.matching.specs.Definitions.Links.{Link, pair_of, amount_of, Increasing}
use Rattle.matching.specs.Definitions.Join.{Left, lesser, taken}
use Rattle.matching.proofs.Laws.Lists.{all_map, all_true, all_at}
use Rattle.matching.proofs.Laws.Left.{lesser_same, lesser-taken, lesser_after}
use Rattle.matching.proofs.Laws.Earliest.{Leq, strictly, equally}
use Rattle.matching.proofs.Laws.Sorting.{Sorted, keep, along}

-- Each link is of a pair of the list, with an amount that its nodes had.
pub record Sound (P : Pair → Type 0) (c : Left) (l : Link) : Type 0 where
  pub of : P (pair_of l)
  pub low : 1 ≤ l.amount
  pub high : l.amount ≤ lesser c (pair_of l)

pub links_sound : (P : Pair → Type 0) (S : List Pair) (c : Left) → All P S → All (Sound P c) (along S c)
unfolding along
links_sound P [] c h = tt
links_sound P (p ∷ S) c h = go (lesser c p) refl (all_map weaker (along S (taken c p (lesser c p))) (links_sound P S (taken c p (lesser c p)) h.1))
  where
    weaker : (l : Link) → Sound P (taken c p (lesser c p)) l → Sound P c l
    weaker l s = record { of = s.of; low = s.low; high = omega (arith, s.high, lesser-taken c p (lesser c p) (pair_of l)) }

    go : (m : ℕ) → lesser c p ≡ m → All (Sound P c) (along S (taken c p (lesser c p))) → All (Sound P c) (keep p m (along S (taken c p (lesser c p))))
    go zero e r = r
    go (suc m) e r = (record { of = h.0; low = omega arith; high = omega arith }, r)

-- The links stand in strict pair order.
pub increasing : (S : List Pair) (c : Left) → Sorted S → Increasing (along S c)
unfolding along
increasing [] c s = tt
increasing (p ∷ S) c s = go (lesser c p) (increasing S (taken c p (lesser c p)) s.1)
  where
    later : (k : Link) → Sound (Leq p) (taken c p (lesser c p)) k → Before p (pair_of k)
    later k s = pick s.of
      where
        pick : Leq p (pair_of k) → Before p (pair_of k)
        pick (strictly h) = h
        pick (equally e) = absurd (omega (arith, s.low, s.high, ap (lesser (taken c p (lesser c p))) e, lesser_after c p))

    go : (m : ℕ) → Increasing (along S (taken c p (lesser c p))) → Increasing (keep p m (along S (taken c p (lesser c p))))
    go zero r = r
    go (suc m) r = (all_map later (along S (taken c p (lesser c p))) (links_sound (Leq p) S (taken c p (lesser c p)) s.0), r)

-- Two pairs differ in a number.
abbrev pub Apart : Pair → Pair → Type 0
Apart p q = p.a ≡ q.a → p.b ≡ q.b → ⊥

abbrev pub Distinct : List Pair → Type 0
Distinct [] = Unit {0}
Distinct (p ∷ S) = All (Apart p) S × Distinct S

abbrev pub Separate : List Link → Type 0
Separate [] = Unit {0}
Separate (l ∷ K) = All (λ k. Apart (pair_of l) (pair_of k)) K × Separate K

-- No two links have the same numbers: once a pair is taken, one of its nodes has nothing left.
pub separate : (S : List Pair) (c : Left) → Separate (along S c)
unfolding along
separate [] c = tt
separate (p ∷ S) c = go (lesser c p) (separate S (taken c p (lesser c p)))
  where
    later : (k : Link) → Sound (λ q. Unit {0}) (taken c p (lesser c p)) k → Apart p (pair_of k)
    later k s d e = omega (arith, s.low, s.high, lesser_after c p, lesser_same (taken c p (lesser c p)) p (pair_of k) d e)

    go : (m : ℕ) → Separate (along S (taken c p (lesser c p))) → Separate (keep p m (along S (taken c p (lesser c p))))
    go zero r = r
    go (suc m) r = (all_map later (along S (taken c p (lesser c p))) (links_sound (λ q. Unit {0}) S (taken c p (lesser c p)) (all_true (λ q. tt) S)), r)

pub test_apart : (p q : Pair) → Apart p q → (eqb p.a q.a && eqb p.b q.b) ≡ false
test_apart p q h = go (ℕ_discrete p.a q.a)
  where
    go : Dec (p.a ≡ q.a) → (eqb p.a q.a && eqb p.b q.b) ≡ false
    go (yes e) = rw (eq-eqb p.a q.a e, ne_eqb p.b q.b (h e))
    go (no n) = rw (ne_eqb p.a q.a n)

-- The amount of a pair in the links.
abbrev pub amount_at : List Link → Pair → ℕ
amount_at K p = amount_of K p.a p.b

pub amount_none : (q : Pair) (K : List Link) → All (λ l. Apart (pair_of l) q) K → amount_at K q ≡ 0
unfolding amount_of
amount_none q [] h = refl
amount_none q (l ∷ K) h = rw (test_apart (pair_of l) q h.0) (amount_none q K h.1)

pub amount_other : (p q : Pair) (m : ℕ) (K : List Link) → Apart p q → amount_at K q ≡ amount_at (keep p m K) q
unfolding amount_of keep
amount_other p q zero K h = refl
amount_other p q (suc m) K h = rw (test_apart p q h)

pub amount_own : (p : Pair) (m : ℕ) (K : List Link) → All (λ l. Apart (pair_of l) p) K → amount_at (keep p m K) p ≡ m
unfolding amount_of keep
amount_own p zero K h = amount_none p K h
amount_own p (suc m) K h = rw (eq-eqb p.a p.a refl, eq-eqb p.b p.b refl)

-- The amount of a link's pair is the link's.
pub amount_of_lem : {l : Link} {K : List Link} → Memᴰ l K → Separate K → amount_at K (pair_of l) ≡ l.amount
unfolding amount_of
amount_of_lem (Memᴰ.head {x = k} e) s = rw (e, eq-eqb k.a k.a refl, eq-eqb k.b k.b refl)
amount_of_lem {l} (Memᴰ.tail {x = k} i) s = rw (test_apart (pair_of k) (pair_of l) (all_at (λ j. Apart (pair_of k) (pair_of j)) s.0 i)) (amount_of_lem i s.1)

-- An amount that is not 0 is a link's.
pub record Linked (K : List Link) (a b : ℕ) : Type 0 where
  pub it : Link
  pub among : Memᴰ it K
  pub is_a : it.a ≡ a
  pub is_b : it.b ≡ b
  pub is_amount : it.amount ≡ amount_of K a b

pub linked : (K : List Link) (a b : ℕ) → 1 ≤ amount_of K a b → Linked K a b
unfolding amount_of
linked [] a b h = absurd (omega arith)
linked (k ∷ K) a b h = go (ℕ_discrete k.a a) (ℕ_discrete k.b b) (linked K a b)
  where
    further : (eqb k.a a && eqb k.b b) ≡ false → (1 ≤ amount_of K a b → Linked K a b) → Linked (k ∷ K) a b
    further e ih = let r : Linked K a b = ih (rw e at h) in
        record { it = r.it; among = Memᴰ.tail r.among; is_a = r.is_a; is_b = r.is_b; is_amount = rw e r.is_amount }

    go : Dec (k.a ≡ a) → Dec (k.b ≡ b) → (1 ≤ amount_of K a b → Linked K a b) → Linked (k ∷ K) a b
    go (yes d) (yes e) ih = record { it = k; among = Memᴰ.head refl; is_a = d; is_b = e; is_amount = rw (eq-eqb k.a a d, eq-eqb k.b b e) }
    go (yes d) (no e) ih = further (rw (eq-eqb k.a a d, ne_eqb k.b b e)) ih
    go (no d) e ih = further (rw (ne_eqb k.a a d)) ih
