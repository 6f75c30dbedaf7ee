-- The masters exchanged: the same links with their numbers exchanged; only rows of equal distance may stand in another order. Every node has as much to spare.
use Rattle.std.specs.Prelude.{ℕ, ◌-◌, ◌≤◌, ◌≡◌, refl, Bool, true, false, cond, ◌&&◌, eqb, ltb}
use Rattle.std.proofs.Common.{sym, ◌∙◌, ap, ap₂, arith, eq-eqb, le-ltb}
use Rattle.std.proofs.Math.Bool.{and-false, or-false}
use mathlib.Core.List.Memᴰ
use mathlib.Core.List.{List, [], ◌∷◌, map, Memᴰ}
use Rattle.matching.specs.Definitions.Lists.{All, Reordered}
use Rattle.matching.specs.declared.Master.{Master}
use Rattle.matching.specs.declared.Master.TheVariants.{A as master_a, B as master_b}
use Rattle.matching.specs.Definitions.Nodes.{each, other, Node, Unique, capacity_of}
use Rattle.matching.specs.Definitions.Pairs.{Pair, distance, pair, earlier, Before, nearer, lower_a, lower_b}
use Rattle.matching.specs.Definitions.Links.{Link, pair_of, exchange, amount_of, Increasing}
use Rattle.matching.specs.Definitions.Join.{capacities, join, spare}
use Rattle.matching.specs.Definitions.Stability.{Within, Blocked, Unblocked}
use Rattle.matching.proofs.Laws.Lists.{all_map, all_in, all_at, all_of_map}
use Rattle.matching.proofs.Laws.Distance.{distance_swap}
use Rattle.matching.proofs.Laws.Reordered.{Apart, same_elements, reordered_sum, sum_of_map, Ascending, ascending_same}
use Rattle.matching.proofs.Laws.Sums.{sum_cong}
use Rattle.matching.proofs.Laws.Amounts.{used_sum, carried}
use Rattle.matching.proofs.Theorems.Join.{Nodes, join_nodes, join_separate, join_increasing, join_amounts}
use Rattle.matching.proofs.Theorems.Amounts.{join_within, join_unblocked, join_unique}

distance_comm : (v w : Node) → distance v w ≡ distance w v
unfolding distance
distance_comm v w = distance_swap v.x v.y w.x w.y

-- The pairs of one node stand in the same order.
abbrev triple : ℕ → ℕ → ℕ → Pair
triple d a b = record { distance = d; a = a; b = b }

flip_order : (d e n i j : ℕ) → earlier (triple d n i) (triple e n j) ≡ earlier (triple d i n) (triple e j n)
unfolding earlier
flip_order d e n i j = rw (le-ltb n n (omega arith), eq-eqb n n refl, and-false (eqb i j), or-false (ltb i j))

row_order : (v w u : Node) → earlier (pair v w) (pair v u) ≡ earlier (pair w v) (pair u v)
unfolding pair
row_order v w u =
    flip_order (distance v w) (distance v u) v.number w.number u.number
    ∙ ap₂ (λ (d e : ℕ). earlier (triple d w.number v.number) (triple e u.number v.number)) (distance_comm v w) (distance_comm v u)

module _ (A B : List Node) (ua : Unique A) (ub : Unique B) where
  abbrev x : ℕ → ℕ → ℕ
  x a b = amount_of (join B A) b a

  within : Within A B x
  within = record { alike = alike; on_a = (join_within B A ub ua).on_b; on_b = (join_within B A ub ua).on_a }
    where
      alike : All (λ v. All (λ w. (v.sort ≡ w.sort → ⊥) → x v.number w.number ≡ 0) B) A
      alike = all_in A (λ v i. all_in B (λ w j n. all_at (λ v. (w.sort ≡ v.sort → ⊥) → x v.number w.number ≡ 0)
          (all_at (λ w. All (λ v. (w.sort ≡ v.sort → ⊥) → x v.number w.number ≡ 0) A) (join_within B A ub ua).alike j) i (λ e. n (sym e))))

  blocked : (v w : Node) → Blocked A B x v w → Blocked B A (amount_of (join B A)) w v
  blocked v w h = record { alike = sym h.alike; on_a = simp (row_order w v) h.on_b; on_b = simp (row_order v w) at h.on_a }

  unblocked : Unblocked A B x
  unblocked = all_in A (λ v i. all_in B (λ w j h. all_at (λ v. ¬ Blocked B A (amount_of (join B A)) w v)
      (all_at (λ w. All (λ v. ¬ Blocked B A (amount_of (join B A)) w v) A) (join_unblocked B A ub ua) j) i (blocked v w h)))

  -- The amounts are the same.
  pub exchange_amounts : All (λ v. All (λ w. amount_of (join B A) w.number v.number ≡ amount_of (join A B) v.number w.number) B) A
  exchange_amounts = join_unique A B ua ub x within unblocked

and_comm : (s t : Bool) → (s && t) ≡ (t && s)
and_comm true true = refl
and_comm true false = refl
and_comm false true = refl
and_comm false false = refl

amount_exchange : (K : List Link) (a b : ℕ) → amount_of (map exchange K) a b ≡ amount_of K b a
unfolding amount_of
amount_exchange [] a b = refl
amount_exchange (l ∷ K) a b = ap₂ (λ (t : Bool) (n : ℕ). cond t l.amount n) (and_comm (eqb l.b a) (eqb l.a b)) (amount_exchange K a b)

nodes_exchange : (A B : List Node) (k : Link) → Nodes B A (pair_of k) → Nodes A B (pair_of (exchange k))
unfolding pair
nodes_exchange A B k n = record {
  v = n.w;
  w = n.v;
  in_a = n.in_b;
  in_b = n.in_a;
  alike = sym n.alike;
  is_pair = λ i. record {
    distance = (ap (λ (p : Pair). p.distance) n.is_pair ∙ distance_comm n.v n.w) i;
    a = (n.is_pair i).b;
    b = (n.is_pair i).a;
  };
}

-- Every row, with its numbers exchanged, is a row of the other join.
pub exchange_rows : (A B : List Node) → Unique A → Unique B → All (λ l. Memᴰ (exchange l) (join B A)) (join A B)
exchange_rows A B ua ub = all_map (λ l i. back l (Memᴰ.of_map exchange (join B A) i)) (join A B)
    (carried A B ua ub (join A B) (map exchange (join B A)) (join_nodes A B)
    (all_of_map (λ l. Nodes A B (pair_of l)) exchange (join B A) (all_map (nodes_exchange A B) (join B A) (join_nodes B A)))
    (join_separate A B) (join_amounts A B)
    (all_map (λ v h. all_map (λ w e. sym e ∙ sym (amount_exchange (join B A) v.number w.number)) B h) A (exchange_amounts A B ua ub)))
  where
    back : (l : Link) → (k : Link) × Memᴰ k (join B A) × (exchange k ≡ l) → Memᴰ (exchange l) (join B A)
    back l h = Memᴰ.cast (ap exchange (sym h.2)) h.1

-- So the rows of one are those of the other with their numbers exchanged, each once;
exchange_apart : (K : List Link) → Increasing K → Apart exchange K
exchange_apart [] h = tt
exchange_apart (l ∷ K) h = (all_map (λ k p e. differ l k p e) K h.0, exchange_apart K h.1)
  where
    differ : (l k : Link) → Before (pair_of l) (pair_of k) → exchange l ≡ exchange k → ⊥
    differ l k (nearer p) e = omega (arith, p, ap (λ (x : Link). x.distance) e)
    differ l k (lower_a q p) e = omega (arith, p, ap (λ (x : Link). x.b) e)
    differ l k (lower_b q r p) e = omega (arith, p, ap (λ (x : Link). x.a) e)

module _ (A B : List Node) (ua : Unique A) (ub : Unique B) where
  pub exchange_reordered : Reordered (map exchange (join A B)) (join B A)
  exchange_reordered = same_elements exchange exchange (join A B) (join B A) (exchange_rows A B ua ub) (exchange_rows B A ub ua)
      (exchange_apart (join A B) (join_increasing A B)) (exchange_apart (join B A) (join_increasing B A))

  -- and row for row they have the same distances.
  pub exchange_distances : map (λ (l : Link). l.distance) (join B A) ≡ map (λ (l : Link). l.distance) (join A B)
  exchange_distances = ascending_same (λ (l : Link). l.distance) (join B A) (join A B) (ascending (join B A) (join_increasing B A)) (ascending (join A B) (join_increasing A B))
      (λ n. sym (reordered_sum (λ (l : Link). cond (eqb l.distance n) 1 0) exchange_reordered) ∙ sum_of_map (λ (l : Link). cond (eqb l.distance n) 1 0) exchange (join A B))
    where
      no_farther : (l k : Link) → Before (pair_of l) (pair_of k) → l.distance ≤ k.distance
      no_farther l k (nearer p) = omega (arith, p)
      no_farther l k (lower_a q p) = omega (arith, q)
      no_farther l k (lower_b q r p) = omega (arith, q)

      ascending : (K : List Link) → Increasing K → Ascending (λ (l : Link). l.distance) K
      ascending [] h = tt
      ascending (l ∷ K) h = (all_map (λ k p. no_farther l k p) K h.0, ascending K h.1)

-- A master's node has as much to spare where its master comes in the other place.
spare_a : (A B : List Node) → Unique A → Unique B → {v : Node} → Memᴰ v A → spare master_a A B v.number ≡ spare master_b B A v.number
unfolding spare capacities
spare_a A B ua ub {v} i = ap (λ (k : ℕ). capacity_of A v.number - k)
    (used_sum A B ua ub master_a (join A B) (join_nodes A B) (join_separate A B) v.number
    ∙ sum_cong (λ w. amount_of (join A B) v.number w.number) (λ w. amount_of (join B A) w.number v.number) B
    (all_map (λ w e. sym e) B (all_at (λ v. All (λ w. amount_of (join B A) w.number v.number ≡ amount_of (join A B) v.number w.number) B) (exchange_amounts A B ua ub) i))
    ∙ sym (used_sum B A ub ua master_b (join B A) (join_nodes B A) (join_separate B A) v.number))

pub exchange_spare : (A B : List Node) → Unique A → Unique B → (s : Master) {v : Node} → Memᴰ v (each A B s) → spare s A B v.number ≡ spare (other s) B A v.number
exchange_spare A B ua ub master_a i = spare_a A B ua ub i
exchange_spare A B ua ub master_b i = sym (spare_a B A ub ua i)
