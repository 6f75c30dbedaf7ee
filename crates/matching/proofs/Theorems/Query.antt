-- Document 000's query, one unit at a time, is the join: with capacities (section 3.4), and on nodes replaced by copies (section 1).
use Rattle.std.specs.Prelude.{ℕ, zero, suc, ◌+◌, ◌≤◌, ◌≡◌, refl}
use Rattle.std.proofs.Common.{sym, ◌∙◌, ap, arith, eq-eqb}
use mathlib.Core.List.{List, [], ◌∷◌, Memᴰ}
use Rattle.matching.specs.Definitions.Lists.{All, sum_over}
use Rattle.matching.specs.declared.Master.{Master}
use Rattle.matching.specs.declared.Master.TheVariants.{A as master_a}
use Rattle.matching.specs.Definitions.Nodes.{each, Node, numbers, Unique, capacity_of}
use Rattle.matching.specs.Definitions.Pairs.{Pair, pairs}
use Rattle.matching.specs.Definitions.Links.{Link, link, pair_of}
use Rattle.matching.specs.Definitions.Join.{Left, capacities, less, lesser, taken, earliest, follow, steps, join}
use Rattle.matching.specs.Definitions.Query.{add_to, merge, single, unit_join}
use Rattle.matching.proofs.Laws.Lists.{all_map, all_in, all_true}
use Rattle.matching.proofs.Laws.Left.{less_hit, less_le, taken_zero, taken-taken, lesser_le, lesser_less}
use Rattle.matching.proofs.Laws.Sorting.{Sorted, sorted_sort, all_sort, sort, keep, along, sorted_join}
use Rattle.matching.proofs.Laws.Along.{links_sound, Apart, test_apart, Separate, separate}
use Rattle.matching.proofs.Laws.Sums.{capacity_at, sum_map, sum_cong}
use Rattle.matching.proofs.Laws.Steps.{steps_skip, steps-sort, first_sorted}
use Rattle.matching.proofs.Laws.Count.{In, pairs_in}
use Rattle.matching.proofs.Theorems.Join.{join_sorted}

-- m units of p, ahead of R.
units : ℕ → Pair → List Link → List Link
units zero p R = R
units (suc m) p R = link p 1 ∷ units m p R

-- Every link as so many units.
expand : List Link → List Link
unfolding units
expand [] = []
expand (l ∷ K) = units l.amount (pair_of l) (expand K)

abbrev amounts : List Link → ℕ
amounts K = sum_over (λ (l : Link). l.amount) K

amounts-keep : (p : Pair) (m : ℕ) (K : List Link) → amounts (keep p m K) ≡ m + amounts K
unfolding sum_over keep
amounts-keep p zero K = omega arith
amounts-keep p (suc m) K = refl

expand-keep : (p : Pair) (m : ℕ) (K : List Link) → expand (keep p m K) ≡ units m p (expand K)
unfolding expand keep
expand-keep p zero K = refl
expand-keep p (suc m) K = refl

-- The units of the first pair come first, and then those of the others.
units_one : (p : Pair) (S : List Pair) → Sorted (p ∷ S)
    → ((n : ℕ) (c : Left) → amounts (along S c) ≤ n → steps single n S c ≡ expand (along S c))
    → (m n : ℕ) (c : Left) → lesser c p ≡ m → m + amounts (along S (taken c p m)) ≤ n
    → steps single n (p ∷ S) c ≡ units m p (expand (along S (taken c p m)))
unfolding steps units earliest follow
units_one p S s ih zero n c e h =
    steps_skip single n p S c e ∙ ih n c (omega (arith, ap (λ (d : Left). amounts (along S d)) (taken_zero c p))) ∙ ap (λ (d : Left). expand (along S d)) (sym (taken_zero c p))
units_one p S s ih (suc m) zero c e h = absurd (omega arith)
units_one p S s ih (suc m) (suc n) c e h =
    rw (e, first_sorted p m S c s.0)
    (ap (λ (K : List Link). link p 1 ∷ K)
    (units_one p S s ih m n (taken c p 1) (omega (arith, lesser_less c p 1)) (omega (arith, ap (λ (d : Left). amounts (along S d)) twice))
    ∙ ap (λ (d : Left). units m p (expand (along S d))) twice))
  where
    twice : taken (taken c p 1) p m ≡ taken c p (suc m)
    twice = taken-taken c p 1 m ∙ ap (taken c p) (omega arith)

units_along : (S : List Pair) → Sorted S → (n : ℕ) (c : Left) → amounts (along S c) ≤ n → steps single n S c ≡ expand (along S c)
unfolding along steps earliest follow expand
units_along [] s zero c h = refl
units_along [] s (suc n) c h = refl
units_along (p ∷ S) s n c h =
    units_one p S s (units_along S s.1) (lesser c p) n c refl (omega (arith, amounts-keep p (lesser c p) (along S (taken c p (lesser c p)))))
    ∙ sym (expand-keep p (lesser c p) (along S (taken c p (lesser c p))))

-- Merging gives the links back.
add_to_apart : (l : Link) (K : List Link) → All (λ k. Apart (pair_of l) (pair_of k)) K → add_to l K ≡ l ∷ K
unfolding add_to
add_to_apart l [] h = refl
add_to_apart l (k ∷ K) h = rw (test_apart (pair_of l) (pair_of k) h.0)

merge-units : (m : ℕ) (p : Pair) (K R : List Link) → merge R ≡ K → All (λ k. Apart p (pair_of k)) K → merge (units (suc m) p R) ≡ link p (suc m) ∷ K
unfolding merge units add_to
merge-units zero p K R e h = rw e (add_to_apart (link p 1) K h)
merge-units (suc m) p K R e h =
    ap (add_to (link p 1)) (merge-units m p K R e h)
    ∙ rw (eq-eqb p.a p.a refl, eq-eqb p.b p.b refl) (ap (λ (n : ℕ). link p n ∷ K) (omega arith))

merge-expand : (K : List Link) → All (λ l. 1 ≤ l.amount) K → Separate K → merge (expand K) ≡ K
unfolding merge expand
merge-expand [] h s = refl
merge-expand (l ∷ K) h s = go l.amount refl h.0 (merge-expand K h.1 s.1)
  where
    go : (m : ℕ) → l.amount ≡ m → 1 ≤ m → merge (expand K) ≡ K → merge (units l.amount (pair_of l) (expand K)) ≡ l ∷ K
    go zero e k ih = absurd (omega arith)
    go (suc m) e k ih = rw e (merge-units m (pair_of l) K (expand K) ih s.0) ∙ ap (λ (n : ℕ). link (pair_of l) n ∷ K) (sym e)

-- The capacities of A are enough units.
reserve_less : (ns : List ℕ) (f : ℕ → ℕ) (n m : ℕ) → sum_over (less f n m) ns ≤ sum_over f ns
unfolding sum_over
reserve_less [] f n m = omega arith
reserve_less (k ∷ ns) f n m = omega (arith, reserve_less ns f n m, less_le f n m k)

reserve_spent : {n : ℕ} {ns : List ℕ} → Memᴰ n ns → (f : ℕ → ℕ) (m : ℕ) → m ≤ f n → m + sum_over (less f n m) ns ≤ sum_over f ns
unfolding sum_over
reserve_spent {n} (Memᴰ.head {xs = ns} e) f m h = omega (arith, ap f e, ap (less f n m) e, less_hit f n m n refl, reserve_less ns f n m)
reserve_spent {n} (Memᴰ.tail {x = k} i) f m h = omega (arith, reserve_spent i f m h, less_le f n m k)

amounts_bound : (ns : Master → List ℕ) (S : List Pair) (c : Left) → All (In ns) S → amounts (along S c) ≤ sum_over (c master_a) (ns master_a)
unfolding along sum_over taken
amounts_bound ns [] c h = omega arith
amounts_bound ns (p ∷ S) c h =
    omega (
      arith,
      amounts-keep p (lesser c p) (along S (taken c p (lesser c p))),
      amounts_bound ns S (taken c p (lesser c p)) h.1,
      reserve_spent (h.0 master_a) (c master_a) (lesser c p) (lesser_le c p master_a),
    )

pub unit_join_lem : (A B : List Node) → Unique A → unit_join A B ≡ join A B
unfolding unit_join sorted_join capacities
unit_join_lem A B u =
    ap merge (sym (steps-sort single (sum_over (λ (v : Node). v.capacity) A) (pairs A B) (capacities A B)) ∙ units_along S (sorted_sort (pairs A B)) (sum_over (λ (v : Node). v.capacity) A) (capacities A B) enough)
    ∙ merge-expand (sorted_join A B) (all_map (λ l s. s.low) (sorted_join A B) (links_sound (λ q. Unit {0}) S (capacities A B) (all_true (λ q. tt) S))) (separate S (capacities A B))
    ∙ sym (join_sorted A B)
  where
    S : List Pair
    S = sort (pairs A B)

    enough : amounts (along S (capacities A B)) ≤ sum_over (λ (v : Node). v.capacity) A
    enough = omega (
      arith,
      amounts_bound (each (numbers A) (numbers B)) S (capacities A B) (all_sort (In (each (numbers A) (numbers B))) (pairs A B) (pairs_in A B)),
      sum_map (capacity_of A) (λ (v : Node). v.number) A,
      sum_cong (λ v. capacity_of A v.number) (λ v. v.capacity) A (all_in A (λ v i. capacity_at i u)),
    )
