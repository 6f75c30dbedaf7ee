-- Links of nodes, no two with the same numbers: what they use of a node is the sum of its pairs' amounts.
use Prim.Native.Nat.{ℕ, zero, suc, ◌+◌, ◌≤◌}
use Rattle.std.specs.Prelude.{◌≡◌, refl, eqb}
use Rattle.std.proofs.Math.Path.{sym, ap}
use Rattle.std.proofs.Common.{◌∙◌, ap₂, eq-eqb, ne_eqb}
use Rattle.std.proofs.Math.Bool.{cond}
use mathlib.Core.List.Memᴰ
use mathlib.Core.List.{List, [], ◌∷◌, Memᴰ}
use Rattle.std.proofs.Math.Decide.{ℕ_discrete}
use native.Mathlib.Omega.{arith}
use Rattle.matching.specs.Definitions.Lists.{All, sum_over}
use Rattle.matching.specs.declared.Master.{Master}
use Rattle.matching.specs.declared.Master.TheVariants.{A as master_a, B as master_b}
use Rattle.matching.specs.Definitions.Nodes.{each, other, Node, Unique}
use Rattle.matching.specs.Definitions.Pairs.{Pair, number_in, pair}
use Rattle.matching.specs.Definitions.Links.{Link, pair_of, amount_of, used, Increasing}
use Rattle.matching.proofs.Laws.Lists.{all_map, all_map₂, all_in, all_at, all_true}
use Rattle.matching.proofs.Laws.Order.{before_irrefl}
use Rattle.matching.proofs.Laws.Along.{Apart, Separate, amount_none, amount_of_lem, Linked, linked}
use Rattle.matching.proofs.Laws.Sums.{sum_cong, sum_plus, sum_zero, sum_single}
use Rattle.matching.proofs.Theorems.Join.{Nodes}

-- The amount of the master's node n with the other master's node m.
abbrev pub amount_from : Master → List Link → ℕ → ℕ → ℕ
amount_from master_a K n m = amount_of K n m
amount_from master_b K n m = amount_of K m n

amount_nil : (s : Master) (n m : ℕ) → amount_from s [] n m ≡ 0
unfolding amount_of
amount_nil master_a n m = refl
amount_nil master_b n m = refl

-- One link more.
both_numbers : (i j k l m : ℕ) → cond (eqb i j) (cond (eqb k l) m 0) 0 ≡ cond (eqb l k) (cond (eqb j i) m 0) 0
both_numbers i j k l m = go (ℕ_discrete i j) (ℕ_discrete k l)
  where
    go : Dec (i ≡ j) → Dec (k ≡ l) → cond (eqb i j) (cond (eqb k l) m 0) 0 ≡ cond (eqb l k) (cond (eqb j i) m 0) 0
    go (yes d) (yes e) = rw (eq-eqb i j d, eq-eqb k l e, eq-eqb l k (sym e), eq-eqb j i (sym d))
    go (yes d) (no e) = rw (eq-eqb i j d, ne_eqb k l e, ne_eqb l k (λ f. e (sym f)))
    go (no d) (yes e) = rw (ne_eqb i j d, eq-eqb l k (sym e), ne_eqb j i (λ f. d (sym f)))
    go (no d) (no e) = rw (ne_eqb i j d, ne_eqb l k (λ f. e (sym f)))

amount_cons : (l : Link) (K : List Link) → All (λ k. Apart (pair_of l) (pair_of k)) K → (a b : ℕ)
    → amount_of (l ∷ K) a b ≡ cond (eqb b l.b) (cond (eqb l.a a) l.amount 0) 0 + amount_of K a b
unfolding amount_of
amount_cons l K h a b = go (ℕ_discrete l.a a) (ℕ_discrete b l.b)
  where
    go : Dec (l.a ≡ a) → Dec (b ≡ l.b) → amount_of (l ∷ K) a b ≡ cond (eqb b l.b) (cond (eqb l.a a) l.amount 0) 0 + amount_of K a b
    go (yes d) (yes e) =
        let n : amount_of K a b ≡ 0 = amount_none (record { distance = 0; a = a; b = b }) K (all_map (λ k n x y. n (d ∙ sym x) (sym e ∙ sym y)) K h) in
        rw (eq-eqb l.a a d, eq-eqb b l.b e, eq-eqb l.b b (sym e), n) (omega arith)
    go (yes d) (no e) = rw (eq-eqb l.a a d, ne_eqb b l.b e, ne_eqb l.b b (λ f. e (sym f))) (omega arith)
    go (no d) (yes e) = rw (ne_eqb l.a a d, eq-eqb b l.b e) (omega arith)
    go (no d) (no e) = rw (ne_eqb l.a a d, ne_eqb b l.b e) (omega arith)

amount_more : (s : Master) (l : Link) (K : List Link) → All (λ k. Apart (pair_of l) (pair_of k)) K → (n m : ℕ)
    → amount_from s (l ∷ K) n m ≡ cond (eqb m (number_in (other s) (pair_of l))) (cond (eqb (number_in s (pair_of l)) n) l.amount 0) 0 + amount_from s K n m
amount_more master_a l K h n m = amount_cons l K h n m
amount_more master_b l K h n m = amount_cons l K h m n ∙ ap (λ (k : ℕ). k + amount_of K m n) (both_numbers n l.b l.a m l.amount)

-- Of nodes with unique numbers, two with the same number are the same.
pub same_node : {v w : Node} {A : List Node} → Memᴰ v A → Memᴰ w A → Unique A → v.number ≡ w.number → v ≡ w
same_node (Memᴰ.head d) (Memᴰ.head e) u h = d ∙ sym e
same_node {v} {w} (Memᴰ.head {x = z} d) (Memᴰ.tail i) u h = absurd (all_at (λ y. z.number ≡ y.number → ⊥) u.0 i (ap (λ (y : Node). y.number) (sym d) ∙ h))
same_node {v} {w} (Memᴰ.tail {x = z} i) (Memᴰ.head d) u h = absurd (all_at (λ y. z.number ≡ y.number → ⊥) u.0 i (ap (λ (y : Node). y.number) (sym d) ∙ sym h))
same_node (Memᴰ.tail i) (Memᴰ.tail j) u h = same_node i j u.1 h

module _ (A B : List Node) (ua : Unique A) (ub : Unique B) where
  -- The link is of two nodes of the drawing, with their distance.
  abbrev pub Named : Link → Type 0
  Named l = Nodes A B (pair_of l)

  -- A master's node of a pair.
  abbrev node_in : Master → {p : Pair} → Nodes A B p → Node
  node_in s n = each n.v n.w s

  node_among : (s : Master) {p : Pair} (n : Nodes A B p) → Memᴰ (node_in s n) (each A B s)
  node_among master_a n = n.in_a
  node_among master_b n = n.in_b

  unique_each : (s : Master) → Unique (each A B s)
  unique_each master_a = ua
  unique_each master_b = ub

  pub node_number : (s : Master) {p : Pair} (n : Nodes A B p) → number_in s p ≡ (node_in s n).number
  unfolding pair
  node_number master_a n = ap (λ (r : Pair). r.a) n.is_pair
  node_number master_b n = ap (λ (r : Pair). r.b) n.is_pair

  same_nodes : (s : Master) {p q : Pair} (m : Nodes A B p) (n : Nodes A B q) → number_in s p ≡ number_in s q → node_in s m ≡ node_in s n
  same_nodes s m n e = same_node (node_among s m) (node_among s n) (unique_each s) (sym (node_number s m) ∙ e ∙ node_number s n)

  -- The numbers of two nodes give the nodes,
  own_node : (s : Master) {p : Pair} (n : Nodes A B p) {v : Node} → Memᴰ v (each A B s) → number_in s p ≡ v.number → node_in s n ≡ v
  own_node s n i e = same_node (node_among s n) i (unique_each s) (sym (node_number s n) ∙ e)

  module _ {p : Pair} (n : Nodes A B p) {v w : Node} (i : Memᴰ v A) (j : Memᴰ w B) (d : p.a ≡ v.number) (e : p.b ≡ w.number) where
    pub own_pair : p ≡ pair v w
    own_pair = n.is_pair ∙ ap₂ pair (own_node master_a n i d) (own_node master_b n j e)

    pub own_sort : v.sort ≡ w.sort
    own_sort = ap (λ (u : Node). u.sort) (sym (own_node master_a n i d)) ∙ n.alike ∙ ap (λ (u : Node). u.sort) (own_node master_b n j e)

  -- and the pair.
  pub same_pair : {p q : Pair} → Nodes A B p → Nodes A B q → p.a ≡ q.a → p.b ≡ q.b → p ≡ q
  same_pair m n d e = m.is_pair ∙ ap₂ pair (same_nodes master_a m n d) (same_nodes master_b m n e) ∙ sym n.is_pair

  -- Two nodes of different sorts have no link.
  pub amount_apart : (K : List Link) → All Named K → All (λ v. All (λ w. (v.sort ≡ w.sort → ⊥) → amount_of K v.number w.number ≡ 0) B) A
  amount_apart K h = all_in A (λ v i. all_in B (λ w j n. go i j n (amount_of K v.number w.number) refl))
    where
      go : {v w : Node} → Memᴰ v A → Memᴰ w B → (v.sort ≡ w.sort → ⊥) → (m : ℕ) → amount_of K v.number w.number ≡ m → amount_of K v.number w.number ≡ 0
      go i j n zero e = e
      go {v} {w} i j n (suc m) e =
          let r : Linked K v.number w.number = linked K v.number w.number (omega arith) in
          absurd (n (own_sort (all_at Named h r.among) i j r.is_a r.is_b))

  pub named_separate : (K : List Link) → All Named K → Increasing K → Separate K
  named_separate [] n o = tt
  named_separate (l ∷ K) n o = (all_map₂ (λ k m b d e. before_irrefl (rw (same_pair n.0 m d e) at b)) K n.1 o.0, named_separate K n.1 o.1)

  pub used_sum : (s : Master) (K : List Link) → All Named K → Separate K → (n : ℕ) → used s K n ≡ sum_over (λ w. amount_from s K n w.number) (each A B (other s))
  unfolding used sum_over
  used_sum s [] h o n = sym (sum_zero (λ w. amount_from s [] n w.number) (each A B (other s)) (all_true (λ w. amount_nil s n w.number) (each A B (other s))))
  used_sum s (l ∷ K) h o n =
      let F : Node → ℕ = (λ w. cond (eqb w.number (number_in (other s) (pair_of l))) (cond (eqb (number_in s (pair_of l)) n) l.amount 0) 0) in
      let G : Node → ℕ = (λ w. amount_from s K n w.number) in
      omega (
        arith,
        used_sum s K h.1 o.1 n,
        sum_cong (λ w. amount_from s (l ∷ K) n w.number) (λ w. F w + G w) (each A B (other s)) (all_true (λ w. amount_more s l K o.0 n w.number) (each A B (other s))),
        sum_plus F G (each A B (other s)),
        rw (sym (node_number (other s) h.0)) at (sum_single (λ w. cond (eqb (number_in s (pair_of l)) n) l.amount 0) (node_among (other s) h.0) (unique_each (other s))),
      )

  -- Links with the same amounts are the same links.
  pub carried : (K J : List Link) → All Named K → All Named J → Separate K → All (λ l. 1 ≤ l.amount) K
      → All (λ v. All (λ w. amount_of K v.number w.number ≡ amount_of J v.number w.number) B) A → All (λ l. Memᴰ l J) K
  carried K J n m o low same = all_in K (λ l i. go l i (all_at Named n i))
    where
      go : (l : Link) → Memᴰ l K → Named l → Memᴰ l J
      go l i z = Memᴰ.cast equal r.among
        where
          amount : amount_of J l.a l.b ≡ l.amount
          amount = ap₂ (amount_of J) (node_number master_a z) (node_number master_b z)
              ∙ sym (all_at (λ w. amount_of K z.v.number w.number ≡ amount_of J z.v.number w.number)
              (all_at (λ v. All (λ w. amount_of K v.number w.number ≡ amount_of J v.number w.number) B) same z.in_a) z.in_b)
              ∙ sym (ap₂ (amount_of K) (node_number master_a z) (node_number master_b z))
              ∙ amount_of_lem i o

          r : Linked J l.a l.b
          r = linked J l.a l.b (omega (arith, amount, all_at (λ k. 1 ≤ k.amount) low i))

          equal : l ≡ r.it
          equal = λ t. record {
            a = sym r.is_a t;
            b = sym r.is_b t;
            distance = ap (λ (p : Pair). p.distance) (same_pair z (all_at Named m r.among) (sym r.is_a) (sym r.is_b)) t;
            amount = (sym amount ∙ sym r.is_amount) t;
          }
