-- Taking the earliest pair again and again: over which pairs, and how many times.
use Prim.Native.Nat.{ℕ, zero, suc, ◌+◌, ◌≤◌}
use Rattle.std.specs.Prelude.{◌≡◌, length, take}
use Rattle.std.proofs.Math.Path.{refl, ap}
use Rattle.std.proofs.Common.{sym, ◌∙◌, zero-add, suc-add, arith}
use Rattle.std.proofs.Math.Option.{Option, none, some}
use mathlib.Core.List.{List, [], ◌∷◌, ◌++◌}
use Rattle.matching.specs.Definitions.Lists.{All}
use Rattle.matching.specs.Definitions.Pairs.{Pair}
use Rattle.matching.specs.Definitions.Links.{Link, link, pair_of}
use Rattle.matching.specs.Definitions.Join.{Left, lesser, taken, consider, earliest, follow, steps, whole}
use Rattle.matching.proofs.Laws.Lists.{all_map}
use Rattle.matching.proofs.Laws.Left.{taken_zero, lesser-taken, lesser_after}
use Rattle.matching.proofs.Laws.Earliest.{Leq, first_least}
use Rattle.matching.proofs.Laws.Sorting.{sort, Sorted, earliest-sort, keep, along}

module _ (share : ℕ → ℕ) where
  -- Two lists of pairs with the same earliest pair, now and later, give the same links.
  pub steps_agree : (L K : List Pair) (Q : Left → Type 0) → ((d : Left) (p : Pair) (m : ℕ) → Q d → Q (taken d p m)) → ((d : Left) → Q d → earliest L d ≡ earliest K d)
      → (n : ℕ) (c : Left) → Q c → steps share n L c ≡ steps share n K c
  unfolding steps follow
  steps_agree L K Q on same zero c q = refl
  steps_agree L K Q on same (suc n) c q = rw (same c q) (go (earliest K c) (steps_agree L K Q on same n))
    where
      go : (o : Option Pair) → ((d : Left) → Q d → steps share n L d ≡ steps share n K d) → follow share (steps share n L) c o ≡ follow share (steps share n K) c o
      go none ih = refl
      go (some p) ih = ap (λ (R : List Link). link p (share (lesser c p)) ∷ R) (ih (taken c p (share (lesser c p))) (on c p (share (lesser c p)) q))

  -- Such are lists with the same earliest pair whatever is left,
  pub steps_same : (L K : List Pair) → ((d : Left) → earliest L d ≡ earliest K d) → (n : ℕ) (c : Left) → steps share n L c ≡ steps share n K c
  steps_same L K h n c = steps_agree L K (λ d. Unit {0}) (λ d p m q. tt) (λ d q. h d) n c tt

  -- the sorted pairs,
  pub steps-sort : (n : ℕ) (L : List Pair) (c : Left) → steps share n (sort L) c ≡ steps share n L c
  steps-sort n L c = steps_same (sort L) L (earliest-sort L) n c

  -- and a list without a pair that has nothing left.
  pub steps_skip : (n : ℕ) (p : Pair) (S : List Pair) (c : Left) → lesser c p ≡ 0 → steps share n (p ∷ S) c ≡ steps share n S c
  unfolding earliest consider
  steps_skip n p S c z = steps_agree (p ∷ S) S (λ d. lesser d p ≡ 0) (λ d q m e. omega (arith, lesser-taken d q m p)) (λ d e. rw e) n c z

pub first_sorted : (p : Pair) (m : ℕ) (S : List Pair) (c : Left) → All (Leq p) S → consider p (suc m) (earliest S c) ≡ some p
first_sorted p m S c h = first_least p m S c (all_map (λ q k n. k) S h)

-- With as many steps as there are links, the steps are those along the sorted pairs.
pub steps-along : (S : List Pair) → Sorted S → (n : ℕ) (c : Left) → length (along S c) ≤ n → steps whole n S c ≡ along S c
unfolding steps along earliest follow
steps-along [] s zero c h = refl
steps-along [] s (suc n) c h = refl
steps-along (p ∷ S) s n c h = go (steps-along S s.1) n (lesser c p) refl h
  where
    go : ((k : ℕ) (d : Left) → length (along S d) ≤ k → steps whole k S d ≡ along S d)
        → (k m : ℕ) → lesser c p ≡ m → length (keep p m (along S (taken c p m))) ≤ k → steps whole k (p ∷ S) c ≡ keep p m (along S (taken c p m))
    go ih k zero e l = steps_skip whole k p S c e ∙ ih k c (rw (taken_zero c p) at l) ∙ ap (along S) (sym (taken_zero c p))
    go ih zero (suc m) e l = absurd (omega arith)
    go ih (suc k) (suc m) e l =
        rw (e, first_sorted p m S c s.0, e)
        (ap (λ (K : List Link). link p (suc m) ∷ K)
        (steps_skip whole k p S (taken c p (suc m)) (rw e at (lesser_after c p)) ∙ ih k (taken c p (suc m)) (omega arith)))

-- What is left after some links.
unfoldable pub after : List Link → Left → Left
unfolding taken
after [] c = c
after (l ∷ K) c = after K (taken c (pair_of l) l.amount)

-- k links, and then the others, from what is left after those k.
steps-none : (n : ℕ) (L : List Pair) (c : Left) → earliest L c ≡ none → steps whole n L c ≡ []
unfolding steps follow
steps-none zero L c e = refl
steps-none (suc n) L c e = rw e

pub steps_split : (L : List Pair) (k n : ℕ) (c : Left) → steps whole (k + n) L c ≡ steps whole k L c ++ steps whole n L (after (steps whole k L c) c)
unfolding steps after follow
steps_split L zero n c = rw (zero-add n)
steps_split L (suc k) n c = rw (suc-add k n) (go (earliest L c) refl (steps_split L k n))
  where
    go : (o : Option Pair) → earliest L c ≡ o → ((d : Left) → steps whole (k + n) L d ≡ steps whole k L d ++ steps whole n L (after (steps whole k L d) d))
        → follow whole (steps whole (k + n) L) c o ≡ follow whole (steps whole k L) c o ++ steps whole n L (after (follow whole (steps whole k L) c o) c)
    go none e ih = sym (steps-none n L c e)
    go (some p) e ih = ap (λ (K : List Link). link p (lesser c p) ∷ K) (ih (taken c p (lesser c p)))

pub steps-take : (L : List Pair) (k n : ℕ) (c : Left) → take k (steps whole (k + n) L c) ≡ steps whole k L c
unfolding steps follow
steps-take L zero n c = refl
steps-take L (suc k) n c = rw (suc-add k n) (go (earliest L c) (steps-take L k n))
  where
    go : (o : Option Pair) → ((d : Left) → take k (steps whole (k + n) L d) ≡ steps whole k L d) → take (suc k) (follow whole (steps whole (k + n) L) c o) ≡ follow whole (steps whole k L) c o
    go none ih = refl
    go (some p) ih = ap (λ (K : List Link). link p (lesser c p) ∷ K) (ih (taken c p (lesser c p)))
