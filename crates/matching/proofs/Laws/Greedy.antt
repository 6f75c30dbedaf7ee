-- Along a strictly ordered list of pairs: amounts within what is left and with no pair blocked are the ones taken in order, and no others are.
use Prim.Native.Nat.{ℕ, suc, ◌<◌, ◌≤◌}
use Rattle.std.proofs.Math.Path.{◌≡◌, refl, ap}
use Rattle.std.proofs.Common.{sym, ◌∙◌, eq-eqb, ne_eqb}
use Rattle.std.specs.Prelude.{◌↔◌, Bool, cond, eqb}
use Rattle.std.proofs.Math.Bool.{true, false}
use mathlib.Core.List.{List, [], ◌∷◌}
use Rattle.std.proofs.Math.Decide.{ℕ_discrete, dec_lt}
use native.Mathlib.Omega.{arith}
use Rattle.matching.specs.Definitions.Lists.{All, sum_over}
use Rattle.matching.specs.declared.Master.{Master}
use Rattle.matching.specs.Definitions.Pairs.{Pair, number_in, earlier, Before}
use Rattle.matching.specs.Definitions.Links.{Link}
use Rattle.matching.specs.Definitions.Join.{Left, lesser, taken}
use Rattle.matching.proofs.Laws.Lists.{all_map, all_map₂}
use Rattle.matching.proofs.Laws.Order.{not_earlier, is_earlier, not_earlier_self}
use Rattle.matching.proofs.Laws.Left.{less_hit, less_other, lesser_le, lesser_most}
use Rattle.matching.proofs.Laws.Sorting.{keep, along}
use Rattle.matching.proofs.Laws.Along.{links_sound, Apart, Distinct, amount_at, amount_other, amount_own}

abbrev pub Strict : List Pair → Type 0
Strict [] = Unit {0}
Strict (p ∷ S) = All (Before p) S × Strict S

-- Amounts that are the lesser of what is left when a pair's turn comes.
abbrev pub Greedy : Left → (Pair → ℕ) → List Pair → Type 0
Greedy c y [] = Unit {0}
Greedy c y (p ∷ S) = (y p ≡ lesser c p) × Greedy (taken c p (y p)) y S

module _ (y : Pair → ℕ) where
  -- What y gives a master's node n by the pair p,
  unfoldable pub at : Master → ℕ → Pair → ℕ
  at s n p = cond (eqb (number_in s p) n) (y p) 0

  -- and what it gives the node of q, up to and with q in pair order.
  unfoldable pub upto : Master → Pair → Pair → ℕ
  upto s q p = cond (eqb (number_in s p) (number_in s q)) (cond (earlier q p) 0 (y p)) 0

  -- The amounts of the two nodes of q are within what they have.
  abbrev pub Fits : Left → List Pair → Pair → Type 0
  Fits c S q = (s : Master) → sum_over (at s (number_in s q)) S ≤ c s (number_in s q)

  -- q is blocked: up to and with q, both its nodes got less than they have.
  abbrev pub BlockedIn : Left → List Pair → Pair → Type 0
  BlockedIn c S q = (s : Master) → sum_over (upto s q) S < c s (number_in s q)

  module _ (s : Master) where
    at_hit : (n : ℕ) (p : Pair) → n ≡ number_in s p → at s n p ≡ y p
    unfolding at
    at_hit n p e = rw (eq-eqb (number_in s p) n (sym e))

    at_miss : (n : ℕ) (p : Pair) → (n ≡ number_in s p → ⊥) → at s n p ≡ 0
    unfolding at
    at_miss n p e = rw (ne_eqb (number_in s p) n (λ d. e (sym d)))

    upto_hit : (q p : Pair) → number_in s q ≡ number_in s p → Before p q → upto s q p ≡ y p
    unfolding upto
    upto_hit q p e h = rw (eq-eqb (number_in s p) (number_in s q) (sym e), not_earlier h)

    upto_miss : (q p : Pair) → (number_in s q ≡ number_in s p → ⊥) → upto s q p ≡ 0
    unfolding upto
    upto_miss q p e = rw (ne_eqb (number_in s p) (number_in s q) (λ d. e (sym d)))

    upto_self : (p : Pair) → upto s p p ≡ y p
    unfolding upto
    upto_self p = rw (eq-eqb (number_in s p) (number_in s p) refl, not_earlier_self p)

    upto_after : (q p : Pair) → Before q p → upto s q p ≡ 0
    unfolding upto
    upto_after q p h = rw (is_earlier h) (go (eqb (number_in s p) (number_in s q)))
      where
        go : (t : Bool) → ◌≡◌ {A = ℕ} (cond t 0 0) 0
        go true = refl
        go false = refl

    upto_none : (p : Pair) (S : List Pair) → All (Before p) S → sum_over (upto s p) S ≡ 0
    unfolding sum_over
    upto_none p [] h = refl
    upto_none p (q ∷ S) h = omega (arith, upto_after p q h.0, upto_none p S h.1)

    -- One pair more at the front, with what is left before and after it.
    module _ (c : Left) (p : Pair) (S : List Pair) where
      at_step : (n : ℕ) → y p ≤ c s (number_in s p) → sum_over (at s n) (p ∷ S) ≤ c s n ↔ sum_over (at s n) S ≤ taken c p (y p) s n
      unfolding sum_over taken
      at_step n b = go (ℕ_discrete n (number_in s p))
        where
          go : Dec (n ≡ number_in s p) → sum_over (at s n) (p ∷ S) ≤ c s n ↔ sum_over (at s n) S ≤ taken c p (y p) s n
          go (yes e) = omega (arith, at_hit n p e, less_hit (c s) (number_in s p) (y p) n e, ap (c s) e)
          go (no e) = omega (arith, at_miss n p e, less_other (c s) (number_in s p) (y p) n e)

      upto_step : (q : Pair) → Before p q → sum_over (upto s q) (p ∷ S) < c s (number_in s q) ↔ sum_over (upto s q) S < taken c p (y p) s (number_in s q)
      unfolding sum_over taken
      upto_step q h = go (ℕ_discrete (number_in s q) (number_in s p))
        where
          go : Dec (number_in s q ≡ number_in s p) → sum_over (upto s q) (p ∷ S) < c s (number_in s q) ↔ sum_over (upto s q) S < taken c p (y p) s (number_in s q)
          go (yes e) = omega (arith, upto_hit q p e h, less_hit (c s) (number_in s p) (y p) (number_in s q) e)
          go (no e) = omega (arith, upto_miss q p e, less_other (c s) (number_in s p) (y p) (number_in s q) e)

  pub stable_greedy : (S : List Pair) (c : Left) → Strict S → All (Fits c S) S → All (λ q. ¬ BlockedIn c S q) S → Greedy c y S
  unfolding sum_over
  stable_greedy [] c s h g = tt
  stable_greedy (p ∷ S) c s h g = (is_lesser, stable_greedy S (taken c p (y p)) s.1 fits free)
    where
      own : (m : Master) → y p ≤ c m (number_in m p)
      own m = omega (arith, h.0 m, at_hit m (number_in m p) p refl)

      is_lesser : y p ≡ lesser c p
      is_lesser = go (dec_lt (y p) (lesser c p))
        where
          go : Dec (y p < lesser c p) → y p ≡ lesser c p
          go (yes l) = absurd (g.0 (λ m. omega (arith, upto_self m p, upto_none m p S s.0, lesser_le c p m)))
          go (no l) = omega (arith, lesser_most c p (y p) own)

      fits : All (Fits (taken c p (y p)) S) S
      fits = all_map (λ q k m. (at_step m c p S (number_in m q) (own m)).0 (k m)) S h.1

      free : All (λ q. ¬ BlockedIn (taken c p (y p)) S q) S
      free = all_map₂ (λ q b n k. n (λ m. (upto_step m c p S q b).1 (k m))) S s.0 g.1

  -- The other way round.
  pub greedy_fits : (S : List Pair) (c : Left) → Greedy c y S → (s : Master) (n : ℕ) → sum_over (at s n) S ≤ c s n
  unfolding sum_over
  greedy_fits [] c g s n = omega arith
  greedy_fits (p ∷ S) c g s n = (at_step s c p S n (omega (arith, g.0, lesser_le c p s))).1 (greedy_fits S (taken c p (y p)) g.1 s n)

  pub greedy_free : (S : List Pair) (c : Left) → Strict S → Greedy c y S → All (λ q. ¬ BlockedIn c S q) S
  unfolding sum_over
  greedy_free [] c s g = tt
  greedy_free (p ∷ S) c s g = (own, all_map₂ rest S s.0 (greedy_free S (taken c p (y p)) s.1 g.1))
    where
      more : BlockedIn c (p ∷ S) p → (m : Master) → suc (y p) ≤ c m (number_in m p)
      more k m = omega (arith, k m, upto_self m p)

      own : ¬ BlockedIn c (p ∷ S) p
      own k = omega (arith, g.0, lesser_most c p (suc (y p)) (more k))

      rest : (q : Pair) → Before p q → ¬ BlockedIn (taken c p (y p)) S q → ¬ BlockedIn c (p ∷ S) q
      rest q b n k = n (λ m. (upto_step m c p S q b).0 (k m))

-- The amounts are determined.
pub greedy_unique : (y z : Pair → ℕ) (S : List Pair) (c : Left) → Greedy c y S → Greedy c z S → All (λ p. y p ≡ z p) S
greedy_unique y z [] c g h = tt
greedy_unique y z (p ∷ S) c g h = (e, greedy_unique y z S (taken c p (z p)) (rw e at g.1) h.1)
  where
    e : y p ≡ z p
    e = g.0 ∙ sym h.0

greedy_ext : (y z : Pair → ℕ) (S : List Pair) (c : Left) → All (λ p. y p ≡ z p) S → Greedy c y S → Greedy c z S
greedy_ext y z [] c e g = tt
greedy_ext y z (p ∷ S) c e g = (sym e.0 ∙ g.0, greedy_ext y z S (taken c p (z p)) e.1 (rw e.0 at g.1))

-- The links taken along the list have such amounts.
pub greedy_along : (S : List Pair) (c : Left) → Distinct S → Greedy c (amount_at (along S c)) S
unfolding along
greedy_along [] c d = tt
greedy_along (p ∷ S) c d =
    (own, rw own (greedy_ext (amount_at K) (amount_at (keep p (lesser c p) K)) S e (all_map (λ q n. amount_other p q (lesser c p) K n) S d.0) (greedy_along S e d.1)))
  where
    e : Left
    e = taken c p (lesser c p)

    K : List Link
    K = along S e

    own : amount_at (keep p (lesser c p) K) p ≡ lesser c p
    own = amount_own p (lesser c p) K (all_map (λ l s n m. s.of (sym n) (sym m)) K (links_sound (Apart p) S e d.0))
