-- The search for the earliest pair: the order of the search does not matter, and what it finds.
use Rattle.std.specs.Prelude.{ℕ, zero, suc, ◌≤◌, ◌≡◌, refl, List, [], ◌∷◌, ◌++◌}
use Rattle.std.proofs.Common.{sym, ◌∙◌, ap, arith}
use Rattle.std.proofs.Math.Option.{Option, none, some, some-ne-none}
use Rattle.matching.specs.Definitions.Lists.{All}
use Rattle.matching.specs.Definitions.Pairs.{Pair, Before}
use Rattle.matching.specs.Definitions.Join.{Left, lesser, least, consider, earliest}
use Rattle.matching.proofs.Laws.Order.{before_trans, before_irrefl, Ordered, before, same, after, ordered, is_earlier, not_earlier, not_earlier_self}

-- p is not after q.
pub data Leq (p q : Pair) : Type 0 where
  strictly : Before p q → Leq p q
  equally : p ≡ q → Leq p q

pub leq_trans : {p q r : Pair} → Leq p q → Leq q r → Leq p r
leq_trans (strictly h) (strictly k) = strictly (before_trans h k)
leq_trans (strictly h) (equally e) = rw (← e) (strictly h)
leq_trans (equally e) k = rw e k

pub leq_anti : {p q : Pair} → Leq p q → Leq q p → p ≡ q
leq_anti (strictly h) (strictly k) = absurd (before_irrefl (before_trans h k))
leq_anti (strictly h) (equally e) = sym e
leq_anti (equally e) k = e

data Either (p q : Pair) : Type 0 where
  this : Leq p q → Either p q
  that : Leq q p → Either p q

either : (p q : Pair) → Either p q
either p q = go (ordered p q)
  where
    go : Ordered p q → Either p q
    go (before h) = this (strictly h)
    go (same e) = this (equally e)
    go (after h) = that (strictly h)

-- The earlier of two pairs.
least_left : {p q : Pair} → Leq p q → least p q ≡ p
unfolding least
least_left (strictly h) = rw (not_earlier h)
least_left {p} {q} (equally e) = rw (e, not_earlier_self q)

least_right : {p q : Pair} → Leq q p → least p q ≡ q
unfolding least
least_right (strictly h) = rw (is_earlier h)
least_right {p} {q} (equally e) = rw (e, not_earlier_self p)

pub least_self : (p : Pair) → least p p ≡ p
least_self p = least_left (equally refl)

least_comm : (p q : Pair) → least p q ≡ least q p
least_comm p q = go (either p q)
  where
    go : Either p q → least p q ≡ least q p
    go (this h) = rw (least_left h, least_right h)
    go (that h) = rw (least_left h, least_right h)

least_left_comm : (p q r : Pair) → least p (least q r) ≡ least q (least p r)
least_left_comm p q r = go (either q r) (either p r)
  where
    go : Either q r → Either p r → least p (least q r) ≡ least q (least p r)
    go (this h) (this k) = rw (least_left h, least_left k, least_comm p q)
    go (this h) (that k) = rw (least_left h, least_right k, least_right (leq_trans h k), least_left h)
    go (that h) (this k) = rw (least_right h, least_left k, least_right (leq_trans k h))
    go (that h) (that k) = rw (least_right h, least_right k, least_right h)

least_assoc : (p q r : Pair) → least (least p q) r ≡ least p (least q r)
least_assoc p q r = least_comm (least p q) r ∙ least_left_comm r p q ∙ ap (least p) (least_comm r q)

pub least_again : (p q : Pair) → least p (least p q) ≡ least p q
least_again p q = sym (least_assoc p p q) ∙ ap (λ (r : Pair). least r q) (least_self p)

-- Two pairs may be considered in either order.
pub consider_comm : (p : Pair) (m : ℕ) (q : Pair) (n : ℕ) (o : Option Pair) → consider p m (consider q n o) ≡ consider q n (consider p m o)
unfolding consider
consider_comm p zero q n o = refl
consider_comm p (suc m) q zero o = refl
consider_comm p (suc m) q (suc n) none = ap some (least_comm p q)
consider_comm p (suc m) q (suc n) (some r) = ap some (least_left_comm p q r)

-- The earlier of two findings.
unfoldable pub better : Option Pair → Option Pair → Option Pair
unfolding least
better none o = o
better (some p) none = some p
better (some p) (some q) = some (least p q)

better-consider : (q : Pair) (m : ℕ) (o r : Option Pair) → better (consider q m o) r ≡ consider q m (better o r)
unfolding better consider
better-consider q zero o r = refl
better-consider q (suc m) none none = refl
better-consider q (suc m) none (some s) = refl
better-consider q (suc m) (some p) none = refl
better-consider q (suc m) (some p) (some s) = ap some (least_assoc q p s)

pub earliest_append : (L K : List Pair) (c : Left) → earliest (L ++ K) c ≡ better (earliest L c) (earliest K c)
unfolding earliest better
earliest_append [] K c = refl
earliest_append (q ∷ L) K c = ap (consider q (lesser c q)) (earliest_append L K c) ∙ sym (better-consider q (lesser c q) (earliest L c) (earliest K c))

-- Two parts of a list may be searched in either order.
better_swap : (o r t : Option Pair) → better o (better r t) ≡ better r (better o t)
unfolding better
better_swap none r t = refl
better_swap (some p) none t = refl
better_swap (some p) (some q) none = ap some (least_comm p q)
better_swap (some p) (some q) (some r) = ap some (least_left_comm p q r)

pub earliest_swap : (L K M : List Pair) (c : Left) → earliest (L ++ (K ++ M)) c ≡ earliest (K ++ (L ++ M)) c
earliest_swap L K M c =
    earliest_append L (K ++ M) c
    ∙ ap (better (earliest L c)) (earliest_append K M c)
    ∙ better_swap (earliest L c) (earliest K c) (earliest M c)
    ∙ sym (earliest_append K (L ++ M) c ∙ ap (better (earliest K c)) (earliest_append L M c))

-- A pair that can be taken, and is not after any other that can, is the earliest.
pub first_least : (p : Pair) (m : ℕ) (L : List Pair) (c : Left) → All (λ q. 1 ≤ lesser c q → Leq p q) L → consider p (suc m) (earliest L c) ≡ some p
unfolding consider earliest
first_least p m [] c h = refl
first_least p m (q ∷ L) c h =
    consider_comm p (suc m) q (lesser c q) (earliest L c) ∙ ap (consider q (lesser c q)) (first_least p m L c h.1) ∙ go (lesser c q) refl
  where
    go : (n : ℕ) → lesser c q ≡ n → consider q n (some p) ≡ some p
    go zero e = refl
    go (suc n) e = ap some (least_right (h.0 (omega arith)))

-- The search finds nothing exactly where no pair can be taken.
pub earliest-none : (L : List Pair) (c : Left) → All (λ q. lesser c q ≡ 0) L → earliest L c ≡ none
unfolding earliest consider
earliest-none [] c h = refl
earliest-none (q ∷ L) c h = rw h.0 (earliest-none L c h.1)

pub none_left : (L : List Pair) (c : Left) → earliest L c ≡ none → All (λ q. lesser c q ≡ 0) L
unfolding earliest consider
none_left [] c e = tt
none_left (q ∷ L) c e = go (lesser c q) refl (earliest L c) refl e (none_left L c)
  where
    go : (m : ℕ) → lesser c q ≡ m → (o : Option Pair) → earliest L c ≡ o → consider q m o ≡ none → (earliest L c ≡ none → All (λ r. lesser c r ≡ 0) L) → All (λ r. lesser c r ≡ 0) (q ∷ L)
    go zero z o f e ih = (z, ih (f ∙ e))
    go (suc m) z none f e ih = absurd (some-ne-none q e)
    go (suc m) z (some r) f e ih = absurd (some-ne-none (least q r) e)
