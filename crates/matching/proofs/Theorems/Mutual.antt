-- Mutual picks: a pair that is the earliest one left of both its nodes may be taken first; taking such pairs in any order until none is left gives the join.
use Rattle.std.specs.Prelude.{ℕ, zero, suc, ◌≤◌, ◌≡◌, refl, Bool, true, false, cond, length}
use Rattle.std.proofs.Common.{sym, ◌∙◌, ap, arith}
use mathlib.Core.List.{List, [], ◌∷◌, ◌++◌, Memᴰ}
use Rattle.std.proofs.Math.Decide.{ℕ_discrete, dec_le}
use Rattle.matching.specs.Definitions.Lists.{All}
use Rattle.matching.specs.declared.Master.{Master}
use Rattle.matching.specs.declared.Master.TheVariants.{A as master_a, B as master_b}
use Rattle.matching.specs.Definitions.Nodes.{Node}
use Rattle.matching.specs.Definitions.Pairs.{Pair, number_in, pairs, earlier, Before}
use Rattle.matching.specs.Definitions.Links.{Link, link, pair_of, Increasing}
use Rattle.matching.specs.Definitions.Join.{Left, capacities, lesser, taken, join}
use Rattle.matching.proofs.Laws.Lists.{all_at, all_in}
use Rattle.matching.proofs.Laws.Order.{is_earlier, not_earlier}
use Rattle.matching.proofs.Laws.Left.{taken_swap, lesser-taken, lesser_other, lesser_after}
use Rattle.matching.proofs.Laws.Earliest.{Leq, leq_anti}
use Rattle.matching.proofs.Laws.Sorting.{Sorted, sorted_sort, all_sort, all_unsort, sort, keep, along, along_skip, along_none, sorted_join}
use Rattle.matching.proofs.Laws.Along.{increasing}
use Rattle.matching.proofs.Theorems.Join.{join_sorted}

-- p is the earliest pair that can be taken of its node in each master.
pub record Mutual (c : Left) (L : List Pair) (p : Pair) : Type 0 where
  pub among : Memᴰ p L
  pub first : (s : Master) → All (λ q. 1 ≤ lesser c q → number_in s q ≡ number_in s p → Leq p q) L

-- A link put in at its place in pair order.
unfoldable pub put_link : Link → List Link → List Link
put_link l [] = l ∷ []
put_link l (k ∷ K) = cond (earlier (pair_of k) (pair_of l)) (k ∷ put_link l K) (l ∷ k ∷ K)

pub put_length : (l : Link) (K : List Link) → length (put_link l K) ≡ suc (length K)
unfolding put_link
put_length l [] = refl
put_length l (k ∷ K) = go (earlier (pair_of k) (pair_of l)) (put_length l K)
  where
    go : (t : Bool) → length (put_link l K) ≡ suc (length K) → length (cond t (k ∷ put_link l K) (l ∷ k ∷ K)) ≡ suc (suc (length K))
    go true e = ap suc e
    go false e = refl

-- The links of K put into R, each at its place, the last first.
unfoldable pub puts : List Link → List Link → List Link
unfolding put_link
puts [] R = R
puts (k ∷ K) R = put_link k (puts K R)

pub puts_snoc : (K : List Link) (l : Link) (R : List Link) → puts (K ++ (l ∷ [])) R ≡ puts K (put_link l R)
unfolding puts
puts_snoc [] l R = refl
puts_snoc (k ∷ K) l R = ap (put_link k) (puts_snoc K l R)

-- J with the link l put in somewhere.
data Plus (l : Link) : List Link → List Link → Type 0 where
  here : {J : List Link} → Plus l (l ∷ J) J
  there : {k : Link} {K J : List Link} → Plus l K J → Plus l (k ∷ K) (k ∷ J)

-- Along S, what stands ahead of p has nothing left or shares no node with p.
data Clear (c : Left) (p : Pair) : List Pair → Type 0 where
  here : {S : List Pair} → Clear c p (p ∷ S)
  past : {q : Pair} {S : List Pair} → lesser c q ≡ 0 → Clear c p S → Clear c p (q ∷ S)
  by : {q : Pair} {S : List Pair} → ((s : Master) → number_in s q ≡ number_in s p → ⊥) → Clear c p S → Clear c p (q ∷ S)

plus_keep : (l : Link) (q : Pair) (n : ℕ) {K J : List Link} → Plus l K J → Plus l (keep q n K) (keep q n J)
unfolding keep
plus_keep l q zero h = h
plus_keep l q (suc n) h = there h

clear_plus : {c : Left} {p : Pair} {S : List Pair} → Clear c p S → (d : Left) → ((q : Pair) → lesser d q ≤ lesser c q)
    → (m : ℕ) → lesser d p ≡ suc m → Plus (link p (suc m)) (along S d) (along S (taken d p (suc m)))
unfolding along keep
clear_plus {p = p} (here {S = S}) d w m e = rw (along_skip p S (taken d p (suc m)) (rw e at (lesser_after d p)), e) here
clear_plus {p = p} (past {q = q} {S = S} z h) d w m e =
    rw (along_skip q S d (omega (arith, w q)), along_skip q S (taken d p (suc m)) (omega (arith, w q, lesser-taken d p (suc m) q))) (clear_plus h d w m e)
clear_plus {p = p} (by {q = q} {S = S} f h) d w m e =
    rw (lesser_other d p q (suc m) f, taken_swap d p q (suc m) (lesser d q) f)
    (plus_keep (link p (suc m)) q (lesser d q)
    (clear_plus h (taken d q (lesser d q)) (λ r. omega (arith, w r, lesser-taken d q (lesser d q) r)) m
    (lesser_other d q p (lesser d q) (λ s i. f s (sym i)) ∙ e)))

clear : (c : Left) {p : Pair} {S : List Pair} → Memᴰ p S → Sorted S
    → ((s : Master) → All (λ q. 1 ≤ lesser c q → number_in s q ≡ number_in s p → Leq p q) S) → Clear c p S
clear c (Memᴰ.head {xs = S} e) o f = rw e here
clear c {p} (Memᴰ.tail {x = q} {xs = S} i) o f = go (dec_le 1 (lesser c q)) (ℕ_discrete q.a p.a) (ℕ_discrete q.b p.b) (clear c i o.1 (λ s. (f s).1))
  where
    self : Leq p q → Clear c p (q ∷ S)
    self k = rw (leq_anti k (all_at (Leq q) o.0 i)) here

    apart : (q.a ≡ p.a → ⊥) → (q.b ≡ p.b → ⊥) → (s : Master) → number_in s q ≡ number_in s p → ⊥
    apart x y master_a = x
    apart x y master_b = y

    go : Dec (1 ≤ lesser c q) → Dec (q.a ≡ p.a) → Dec (q.b ≡ p.b) → Clear c p S → Clear c p (q ∷ S)
    go (no n) x y r = past {q = q} (omega arith) r
    go (yes n) (yes x) y r = self ((f master_a).0 n x)
    go (yes n) (no x) (yes y) r = self ((f master_b).0 n y)
    go (yes n) (no x) (no y) r = by (apart x y) r

plus_all : (P : Link → Type 0) {l : Link} {K J : List Link} → Plus l K J → All P K → P l
plus_all P here h = h.0
plus_all P (there q) h = plus_all P q h.1

plus_put : {l : Link} {K J : List Link} → Plus l K J → Increasing K → K ≡ put_link l J
unfolding put_link
plus_put (here {J = []}) h = refl
plus_put {l} (here {J = k ∷ J}) h = rw (not_earlier h.0.0)
plus_put {l} (there {k = k} {K = K} q) h = rw (is_earlier (plus_all (λ j. Before (pair_of k) (pair_of j)) q h.0)) (ap (λ (J : List Link). k ∷ J) (plus_put q h.1))

-- Taking such a pair first changes nothing: its link is put in at its place among the links of the rest.
pub mutual_first : (L : List Pair) (c : Left) (p : Pair) → Mutual c L p → 1 ≤ lesser c p
    → along (sort L) c ≡ put_link (link p (lesser c p)) (along (sort L) (taken c p (lesser c p)))
mutual_first L c p h n = go (lesser c p) refl n
  where
    among : Memᴰ p (sort L)
    among = all_at (λ q. Memᴰ q (sort L)) (all_unsort (λ q. Memᴰ q (sort L)) L (all_in (sort L) (λ q i. i))) h.among

    first : (s : Master) → All (λ q. 1 ≤ lesser c q → number_in s q ≡ number_in s p → Leq p q) (sort L)
    first s = all_sort (λ q. 1 ≤ lesser c q → number_in s q ≡ number_in s p → Leq p q) L (h.first s)

    go : (m : ℕ) → lesser c p ≡ m → 1 ≤ m → along (sort L) c ≡ put_link (link p m) (along (sort L) (taken c p m))
    go zero e k = absurd (omega arith)
    go (suc m) e k = plus_put (clear_plus (clear c among (sorted_sort L) first) c (λ q. omega arith) m e) (increasing (sort L) c (sorted_sort L))

-- A run takes such pairs in any order, until none can be taken; K is its links, each put in at its place.
pub data Run (L : List Pair) : Left → List Link → Type 0 where
  done : {c : Left} → All (λ q. lesser c q ≡ 0) L → Run L c []
  pick : {c : Left} {K : List Link} (p : Pair) → Mutual c L p → 1 ≤ lesser c p → Run L (taken c p (lesser c p)) K → Run L c (put_link (link p (lesser c p)) K)

run_along : {L : List Pair} {c : Left} {K : List Link} → Run L c K → along (sort L) c ≡ K
run_along {L} {c} (done h) = along_none (sort L) c (all_sort (λ q. lesser c q ≡ 0) L h)
run_along {L} {c} (pick p m n r) = mutual_first L c p m n ∙ ap (put_link (link p (lesser c p))) (run_along r)

-- Every run gives the join.
pub run_join : (A B : List Node) {K : List Link} → Run (pairs A B) (capacities A B) K → join A B ≡ K
unfolding sorted_join
run_join A B r = join_sorted A B ∙ run_along r
