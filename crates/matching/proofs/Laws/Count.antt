-- How many links there are: each takes a node out of the search, and the last takes two.
use Prim.Native.Nat.{ℕ, zero, suc, ◌+◌, ◌≤◌, min, pred}
use Rattle.std.specs.Prelude.{◌≡◌}
use Rattle.std.proofs.Math.Path.{refl}
use Rattle.std.proofs.Common.{ap}
use mathlib.Core.List.Memᴰ
use mathlib.Core.List.{List, [], ◌∷◌, Memᴰ}
use Rattle.std.proofs.Math.Decide.{dec_le}
use native.Mathlib.Omega.{arith}
use Rattle.std.proofs.Math.ListN.{length}
use Rattle.std.proofs.lemmas.List.{length-map}
use Rattle.matching.specs.Definitions.Lists.{All}
use Rattle.matching.specs.declared.Master.{Master}
use Rattle.matching.specs.declared.Master.TheVariants.{A as master_a, B as master_b}
use Rattle.matching.specs.Definitions.Nodes.{each, Node, numbers}
use Rattle.matching.specs.Definitions.Pairs.{Pair, number_in, pair, pairs}
use Rattle.matching.specs.Definitions.Join.{Left, less, lesser, taken}
use Rattle.matching.proofs.Laws.Lists.{all_in}
use Rattle.matching.proofs.Laws.Left.{less_hit, less_le, lesser_le}
use Rattle.matching.proofs.Laws.Sorting.{sort, all_sort, keep, along}
use Rattle.matching.proofs.Laws.Sums.{all_pairs_lem}

-- How many of the numbers have something left.
alive : List ℕ → (ℕ → ℕ) → ℕ
alive [] f = 0
alive (n ∷ ns) f = min 1 (f n) + alive ns f

alive-length : (ns : List ℕ) (f : ℕ → ℕ) → alive ns f ≤ length ns
unfolding alive
alive-length [] f = omega arith
alive-length (n ∷ ns) f = omega (arith, alive-length ns f)

alive-less : (ns : List ℕ) (f : ℕ → ℕ) (n m : ℕ) → alive ns (less f n m) ≤ alive ns f
unfolding alive
alive-less [] f n m = omega arith
alive-less (k ∷ ns) f n m = omega (arith, alive-less ns f n m, less_le f n m k)

alive_one : {n : ℕ} {ns : List ℕ} → Memᴰ n ns → (f : ℕ → ℕ) → 1 ≤ f n → 1 ≤ alive ns f
unfolding alive
alive_one (Memᴰ.head e) f h = omega (arith, ap f e)
alive_one (Memᴰ.tail i) f h = omega (arith, alive_one i f h)

alive_spent : {n : ℕ} {ns : List ℕ} → Memᴰ n ns → (f : ℕ → ℕ) (m : ℕ) → 1 ≤ f n → f n ≤ m → suc (alive ns (less f n m)) ≤ alive ns f
unfolding alive
alive_spent {n} (Memᴰ.head {xs = ns} e) f m h k = omega (arith, ap f e, ap (less f n m) e, alive-less ns f n m, less_hit f n m n refl)
alive_spent {n} (Memᴰ.tail {x = k} i) f m h l = omega (arith, alive_spent i f m h l, less_le f n m k)

module _ (ns : Master → List ℕ) where
  -- The pair's numbers are among those.
  abbrev pub In : Pair → Type 0
  In p = (s : Master) → Memᴰ (number_in s p) (ns s)

  abbrev live : Left → ℕ
  live c = alive (ns master_a) (c master_a) + alive (ns master_b) (c master_b)

  live_less : (c : Left) (p : Pair) (m : ℕ) (s : Master) → alive (ns s) (taken c p m s) ≤ alive (ns s) (c s)
  unfolding taken
  live_less c p m s = alive-less (ns s) (c s) (number_in s p) m

  -- A node that loses all it has is out of the search.
  live_out : (c : Left) (p : Pair) → In p → 1 ≤ lesser c p → (s : Master) → c s (number_in s p) ≤ lesser c p → suc (alive (ns s) (taken c p (lesser c p) s)) ≤ alive (ns s) (c s)
  unfolding taken
  live_out c p i h s l = alive_spent (i s) (c s) (lesser c p) (omega (arith, lesser_le c p s)) l

  live_spent : (c : Left) (p : Pair) → In p → 1 ≤ lesser c p → suc (live (taken c p (lesser c p))) ≤ live c
  unfolding lesser
  live_spent c p i h = go (dec_le (c master_a p.a) (c master_b p.b))
    where
      go : Dec (c master_a p.a ≤ c master_b p.b) → suc (live (taken c p (lesser c p))) ≤ live c
      go (yes l) = omega (arith, live_out c p i h master_a (omega arith), live_less c p (lesser c p) master_b)
      go (no l) = omega (arith, live_out c p i h master_b (omega arith), live_less c p (lesser c p) master_a)

  live_one : (c : Left) (p : Pair) → In p → 1 ≤ lesser c p → (s : Master) → 1 ≤ alive (ns s) (c s)
  live_one c p i h s = alive_one (i s) (c s) (omega (arith, lesser_le c p s))

  count : (S : List Pair) (c : Left) → All In S → length (along S c) ≤ pred (live c)
  unfolding along
  count [] c h = omega arith
  count (p ∷ S) c h = go (lesser c p) refl (count S (taken c p (lesser c p)) h.1)
    where
      go : (m : ℕ) → lesser c p ≡ m → length (along S (taken c p (lesser c p))) ≤ pred (live (taken c p (lesser c p)))
          → length (keep p m (along S (taken c p (lesser c p)))) ≤ pred (live c)
      go zero e l = omega (arith, live_less c p (lesser c p) master_a, live_less c p (lesser c p) master_b)
      go (suc m) e l = omega (arith, live_spent c p h.0 (omega arith), live_one c p h.0 (omega arith) master_a, live_one c p h.0 (omega arith) master_b)

-- The numbers of a pair are numbers of nodes.
pub pairs_in : (A B : List Node) → All (In (each (numbers A) (numbers B))) (pairs A B)
unfolding pair
pairs_in A B = all_pairs_lem (In (each (numbers A) (numbers B))) A B (all_in A (λ v i. all_in B (λ w j e. at v i w j)))
  where
    at : (v : Node) → Memᴰ v A → (w : Node) → Memᴰ w B → (s : Master) → Memᴰ (number_in s (pair v w)) (each (numbers A) (numbers B) s)
    at v i w j master_a = Memᴰ.map (λ (u : Node). u.number) i
    at v i w j master_b = Memᴰ.map (λ (u : Node). u.number) j

pub count_join : (A B : List Node) (c : Left) → length (along (sort (pairs A B)) c) ≤ pred (length A + length B)
count_join A B c =
    let ns : Master → List ℕ = each (numbers A) (numbers B) in
    omega (
      arith,
      count ns (sort (pairs A B)) c (all_sort (In ns) (pairs A B) (pairs_in A B)),
      alive-length (numbers A) (c master_a),
      alive-length (numbers B) (c master_b),
      length-map A (λ (v : Node). v.number),
      length-map B (λ (v : Node). v.number),
    )
