-- Section 1's join on nodes replaced by copies is the join: a number's copies are as many as its node has left.
use Rattle.std.specs.Prelude.{ℕ, zero, suc, ◌-◌, ◌≤◌, ◌≡◌, refl, List, [], ◌∷◌, ◌++◌, map, length, replicate}
use Rattle.std.proofs.Common.{sym, ◌∙◌, ap, ap₂, arith, length-append, eq-eqb, ne_eqb}
use Rattle.std.proofs.Math.Option.{Option, none, some}
use Rattle.std.proofs.Math.Decide.{ℕ_discrete}
use Rattle.std.proofs.lemmas.List.{length-replicate}
use Rattle.matching.specs.Definitions.Lists.{All, sum_over}
use Rattle.matching.specs.declared.Master.TheVariants.{A as master_a, B as master_b}
use Rattle.matching.specs.Definitions.Nodes.{Node, Unique, of_sort, capacity_of}
use Rattle.matching.specs.Definitions.Pairs.{Pair, pair, pairs}
use Rattle.matching.specs.Definitions.Links.{Link, link}
use Rattle.matching.specs.Definitions.Join.{Left, capacities, less, lesser, taken, consider, earliest, follow, steps, join}
use Rattle.matching.specs.Definitions.Edits.{depart}
use Rattle.matching.specs.Definitions.Query.{merge, single, unit_join, copies, closest, remove, exclusive, copy_join}
use Rattle.matching.proofs.Laws.Lists.{all_map, all_in, all_true, all_of_map}
use Rattle.matching.proofs.Laws.Left.{less_hit, less_other, lesser_none}
use Rattle.matching.proofs.Laws.Earliest.{least_self, least_again, better, earliest_append, earliest-none}
use Rattle.matching.proofs.Laws.Sums.{capacity_at}
use Rattle.matching.proofs.Theorems.Query.{unit_join_lem}

-- Each node as many times as f has of its number.
copies_of : (ℕ → ℕ) → List Node → List Node
copies_of f [] = []
copies_of f (v ∷ A) = replicate (f v.number) v ++ copies_of f A

copies_cong : (f g : ℕ → ℕ) (A : List Node) → All (λ v. f v.number ≡ g v.number) A → copies_of f A ≡ copies_of g A
unfolding copies_of
copies_cong f g [] h = refl
copies_cong f g (v ∷ A) h = ap₂ (λ (k : ℕ) (R : List Node). replicate k v ++ R) h.0 (copies_cong f g A h.1)

-- Copies are of their node's sort.
sort_copies : (s : ℕ) (f : ℕ → ℕ) (A : List Node) → of_sort s (copies_of f A) ≡ copies_of f (of_sort s A)
unfolding copies_of of_sort
sort_copies s f [] = refl
sort_copies s f (v ∷ A) = go (ℕ_discrete v.sort s) (f v.number) (sort_copies s f A)
  where
    R : List Node
    R = copies_of f A

    own : v.sort ≡ s → (k : ℕ) → of_sort s (replicate k v ++ R) ≡ replicate k v ++ of_sort s R
    own e zero = refl
    own e (suc k) = rw (eq-eqb v.sort s e) (ap (λ (l : List Node). v ∷ l) (own e k))

    other : (v.sort ≡ s → ⊥) → (k : ℕ) → of_sort s (replicate k v ++ R) ≡ of_sort s R
    other e zero = refl
    other e (suc k) = rw (ne_eqb v.sort s e) (other e k)

    go : Dec (v.sort ≡ s) → (k : ℕ) → of_sort s R ≡ copies_of f (of_sort s A) → of_sort s (replicate (f v.number) v ++ R) ≡ copies_of f (of_sort s (v ∷ A))
    go (yes e) k ih = own e (f v.number) ∙ rw (ih, eq-eqb v.sort s e)
    go (no e) k ih = other e (f v.number) ∙ rw (ih, ne_eqb v.sort s e)

-- A copy fewer of the number n.
depart_past : (n : ℕ) (v : Node) → (v.number ≡ n → ⊥) → (k : ℕ) (R : List Node) → depart n (replicate k v ++ R) ≡ replicate k v ++ depart n R
unfolding depart
depart_past n v h zero R = refl
depart_past n v h (suc k) R = rw (ne_eqb v.number n h) (ap (λ (l : List Node). v ∷ l) (depart_past n v h k R))

depart_copies : (n : ℕ) (f : ℕ → ℕ) (A : List Node) → Unique A → depart n (copies_of f A) ≡ copies_of (less f n 1) A
unfolding copies_of depart
depart_copies n f [] u = refl
depart_copies n f (v ∷ A) u = go (ℕ_discrete v.number n) (depart_copies n f A u.1)
  where
    hit : v.number ≡ n → (k j : ℕ) → j ≡ k - 1 → depart n (copies_of f A) ≡ copies_of (less f n 1) A → depart n (replicate k v ++ copies_of f A) ≡ replicate j v ++ copies_of (less f n 1) A
    hit e zero zero d ih = ih
    hit e zero (suc j) d ih = absurd (omega arith)
    hit e (suc k) j d ih =
        let i : k ≡ j = omega arith in
        rw (eq-eqb v.number n e) (ap₂ (λ (i : ℕ) (R : List Node). replicate i v ++ R) i
        (copies_cong f (less f n 1) A (all_map (λ w h. sym (less_other f n 1 w.number (λ d. h (e ∙ sym d)))) A u.0)))

    go : Dec (v.number ≡ n) → depart n (copies_of f A) ≡ copies_of (less f n 1) A → depart n (copies_of f (v ∷ A)) ≡ copies_of (less f n 1) (v ∷ A)
    go (yes e) ih = hit e (f v.number) (less f n 1 v.number) (less_hit f n 1 v.number e) ih
    go (no h) ih = depart_past n v h (f v.number) (copies_of f A) ∙ ap₂ (λ (k : ℕ) (R : List Node). replicate k v ++ R) (sym (less_other f n 1 v.number h)) ih

-- Among copies every pair can be taken.
full : Left
full s n = 1

closest-full : (L : List Pair) → closest L ≡ earliest L full
unfolding closest earliest lesser full
closest-full [] = refl
closest-full (p ∷ L) = ap (consider p 1) (closest-full L)

-- Only whether something is left matters to the search.
consider_any : (p : Pair) (o : Option Pair) (m n : ℕ) → (1 ≤ m → 1 ≤ n) → (1 ≤ n → 1 ≤ m) → consider p m o ≡ consider p n o
unfolding consider
consider_any p o zero zero h g = refl
consider_any p o zero (suc n) h g = absurd (omega (arith, g (omega arith)))
consider_any p o (suc m) zero h g = absurd (omega (arith, h (omega arith)))
consider_any p none (suc m) (suc n) h g = refl
consider_any p (some q) (suc m) (suc n) h g = refl

-- A row of pairs: the copies of w are one pair to consider, once and again.
consider_again : (p : Pair) (k : ℕ) (o : Option Pair) → consider p 1 (consider p k o) ≡ consider p (suc k) o
unfolding consider
consider_again p zero none = refl
consider_again p zero (some q) = refl
consider_again p (suc k) none = ap some (least_self p)
consider_again p (suc k) (some q) = ap some (least_again p q)

row_again : (v w : Node) (k : ℕ) (R : List Node) → earliest (map (pair v) (replicate k w ++ R)) full ≡ consider (pair v w) k (earliest (map (pair v) R) full)
unfolding earliest consider lesser full
row_again v w zero R = refl
row_again v w (suc k) R = ap (consider (pair v w) 1) (row_again v w k R) ∙ consider_again (pair v w) k (earliest (map (pair v) R) full)

row_copies : (v : Node) (B : List Node) (c : Left) → 1 ≤ c master_a v.number → earliest (map (pair v) (copies_of (c master_b) B)) full ≡ earliest (map (pair v) B) c
unfolding copies_of earliest lesser pair
row_copies v [] c h = refl
row_copies v (w ∷ B) c h =
    row_again v w (c master_b w.number) (copies_of (c master_b) B)
    ∙ ap (consider (pair v w) (c master_b w.number)) (row_copies v B c h)
    ∙ consider_any (pair v w) (earliest (map (pair v) B) c) (c master_b w.number) (lesser c (pair v w)) (λ l. omega arith) (λ l. omega arith)

-- All rows: those of v's copies are one row, searched once and again.
times : ℕ → Option Pair → Option Pair
times zero o = none
times (suc k) o = o

better_again : (k : ℕ) (o r : Option Pair) → better o (better (times k o) r) ≡ better o r
unfolding better times
better_again zero o r = refl
better_again (suc k) none r = refl
better_again (suc k) (some p) none = ap some (least_self p)
better_again (suc k) (some p) (some q) = ap some (least_again p q)

rows_again : (v : Node) (k : ℕ) (R B : List Node) → earliest (pairs (replicate k v ++ R) B) full ≡ better (times k (earliest (map (pair v) (of_sort v.sort B)) full)) (earliest (pairs R B) full)
unfolding pairs better times
rows_again v zero R B = refl
rows_again v (suc k) R B =
    earliest_append row (pairs (replicate k v ++ R) B) full
    ∙ ap (better (earliest row full)) (rows_again v k R B)
    ∙ better_again k (earliest row full) (earliest (pairs R B) full)
  where
    row : List Pair
    row = map (pair v) (of_sort v.sort B)

closest_copies : (A B : List Node) (c : Left) → earliest (pairs (copies_of (c master_a) A) (copies_of (c master_b) B)) full ≡ earliest (pairs A B) c
unfolding copies_of pairs times better pair earliest
closest_copies [] B c = refl
closest_copies (v ∷ A) B c =
    rows_again v (c master_a v.number) (copies_of (c master_a) A) B'
    ∙ ap₂ better (row (c master_a v.number) refl) (closest_copies A B c)
    ∙ sym (earliest_append (map (pair v) C) (pairs A B) c)
  where
    B' : List Node
    B' = copies_of (c master_b) B

    C : List Node
    C = of_sort v.sort B

    row : (k : ℕ) → c master_a v.number ≡ k → times k (earliest (map (pair v) (of_sort v.sort B')) full) ≡ earliest (map (pair v) C) c
    row zero e = sym (earliest-none (map (pair v) C) c (all_of_map (λ q. lesser c q ≡ 0) (pair v) C (all_true (λ w. lesser_none c (pair v w) master_a e) C)))
    row (suc k) e = rw (sort_copies v.sort (c master_b) B) (row_copies v C c (omega arith))

-- So each step takes the same pair and leaves as many copies as are left.
exclusive-steps : (A B : List Node) → Unique A → Unique B → (n : ℕ) (c : Left) → exclusive n (copies_of (c master_a) A) (copies_of (c master_b) B) ≡ steps single n (pairs A B) c
unfolding exclusive steps remove follow taken
exclusive-steps A B ua ub zero c = refl
exclusive-steps A B ua ub (suc n) c = rw (closest-full (pairs (copies_of (c master_a) A) (copies_of (c master_b) B)) ∙ closest_copies A B c) (go (earliest (pairs A B) c) (exclusive-steps A B ua ub n))
  where
    go : (o : Option Pair) → ((d : Left) → exclusive n (copies_of (d master_a) A) (copies_of (d master_b) B) ≡ steps single n (pairs A B) d)
        → remove (exclusive n) (copies_of (c master_a) A) (copies_of (c master_b) B) o ≡ follow single (steps single n (pairs A B)) c o
    go none ih = refl
    go (some p) ih = ap (λ (K : List Link). link p 1 ∷ K) (ap₂ (exclusive n) (depart_copies p.a (c master_a) A ua) (depart_copies p.b (c master_b) B ub) ∙ ih (taken c p 1))

copies_named : (f : ℕ → ℕ) (A : List Node) → All (λ v. f v.number ≡ v.capacity) A → copies A ≡ copies_of f A
unfolding copies copies_of
copies_named f [] h = refl
copies_named f (v ∷ A) h = ap₂ (λ (k : ℕ) (R : List Node). replicate k v ++ R) (sym h.0) (copies_named f A h.1)

copies_capacity : (A : List Node) → Unique A → copies A ≡ copies_of (capacity_of A) A
copies_capacity A u = copies_named (capacity_of A) A (all_in A (λ v i. capacity_at i u))

copies_length : (A : List Node) → length (copies A) ≡ sum_over (λ (v : Node). v.capacity) A
unfolding copies sum_over
copies_length [] = refl
copies_length (v ∷ A) = omega (arith, length-append (replicate v.capacity v) (copies A), length-replicate v.capacity v, copies_length A)

pub copy_join_lem : (A B : List Node) → Unique A → Unique B → copy_join A B ≡ join A B
unfolding copy_join unit_join capacities
copy_join_lem A B ua ub =
    (λ i. merge (exclusive (copies_length A i) (copies_capacity A ua i) (copies_capacity B ub i)))
    ∙ ap merge (exclusive-steps A B ua ub (sum_over (λ (v : Node). v.capacity) A) (capacities A B))
    ∙ unit_join_lem A B ua
