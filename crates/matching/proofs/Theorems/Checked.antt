-- A list of links is the join if it stands in pair order, names nodes of one sort with their distance, has amounts of at least 1 within the capacities, and leaves no pair blocked.
use Rattle.std.specs.Prelude.{ℕ, zero, suc, ◌≤◌, ◌≡◌, Bool}
use Rattle.std.proofs.Math.Path.{refl, sym}
use Rattle.std.proofs.Common.{ap, ap₂, arith}
use Rattle.std.proofs.Math.Bool.{true, false, cond}
use mathlib.Core.List.Memᴰ
use mathlib.Core.List.{List, [], ◌∷◌, Memᴰ}
use Rattle.matching.specs.Definitions.Lists.{All}
use Rattle.matching.specs.declared.Master.{Master}
use Rattle.matching.specs.declared.Master.TheVariants.{A as master_a, B as master_b}
use Rattle.matching.specs.Definitions.Nodes.{each, Node, Unique}
use Rattle.matching.specs.Definitions.Pairs.{Pair, number_in, pair, earlier, Before}
use Rattle.matching.specs.Definitions.Links.{Link, pair_of, amount_of, used, Increasing}
use Rattle.matching.specs.Definitions.Join.{join}
use Rattle.matching.specs.Definitions.Stability.{Within, Blocked, Unblocked}
use Rattle.matching.proofs.Laws.Lists.{all_map, all_map₂, all_in, all_at}
use Rattle.matching.proofs.Laws.Order.{before_trans, before_irrefl, unless_before}
use Rattle.matching.proofs.Laws.Along.{Separate, Linked, linked}
use Rattle.matching.proofs.Laws.Sums.{sum_cong}
use Rattle.matching.proofs.Laws.Amounts.{Named, own_pair, amount_apart, named_separate, used_sum, carried}
use Rattle.matching.proofs.Theorems.Join.{join_nodes, join_separate, join_amounts, join_increasing}
use Rattle.matching.proofs.Theorems.Amounts.{join_unique}

-- Two lists in strict pair order with the same members are the same.
skip : {l k : Link} {K : List Link} → Before (pair_of k) (pair_of l) → Memᴰ l (k ∷ K) → Memᴰ l K
skip {l} {k} b (Memᴰ.head e) = absurd (before_irrefl (rw (ap pair_of e) at b))
skip b (Memᴰ.tail i) = i

pub same_list : (K J : List Link) → Increasing K → Increasing J → All (λ l. Memᴰ l J) K → All (λ l. Memᴰ l K) J → K ≡ J
same_list [] [] s t h g = refl
same_list [] (j ∷ J) s t h g = absurd (Memᴰ.not-nil g.0)
same_list (k ∷ K) [] s t h g = absurd (Memᴰ.not-nil h.0)
same_list (k ∷ K) (j ∷ J) s t h g = go (same_list K J s.1 t.1) h.0 g.0
  where
    rest : (All (λ l. Memᴰ l J) K → All (λ l. Memᴰ l K) J → K ≡ J) → k ≡ j → k ∷ K ≡ j ∷ J
    rest ih e = ap₂ (λ (l : Link) (L : List Link). l ∷ L) e (ih
        (all_map₂ (λ l b i. skip (rw (ap pair_of e) at b) i) K s.0 h.1)
        (all_map₂ (λ l b i. skip (rw (ap pair_of (sym e)) at b) i) J t.0 g.1))

    go : (All (λ l. Memᴰ l J) K → All (λ l. Memᴰ l K) J → K ≡ J) → Memᴰ k (j ∷ J) → Memᴰ j (k ∷ K) → k ∷ K ≡ j ∷ J
    go ih (Memᴰ.head e) m = rest ih e
    go ih (Memᴰ.tail i) (Memᴰ.head e) = rest ih (sym e)
    go ih (Memᴰ.tail i) (Memᴰ.tail m) = absurd (before_irrefl (before_trans (all_at (λ l. Before (pair_of j) (pair_of l)) t.0 i) (all_at (λ l. Before (pair_of k) (pair_of l)) s.0 m)))

module _ (A B : List Node) (ua : Unique A) (ub : Unique B) (K : List Link) where
  -- What a check of the rows shows.
  pub record Sensible : Type 0 where
    pub named : All (Named A B ua ub) K
    pub ordered : Increasing K
    pub positive : All (λ l. 1 ≤ l.amount) K
    pub within : (s : Master) → All (λ v. used s K v.number ≤ v.capacity) (each A B s)

  -- With no blocked pair such links are the join.
  pub links_unique : Sensible → Unblocked A B (amount_of K) → K ≡ join A B
  links_unique h free = same_list K (join A B) h.ordered (join_increasing A B)
      (carried A B ua ub K (join A B) h.named (join_nodes A B) separate h.positive equal)
      (carried A B ua ub (join A B) K (join_nodes A B) h.named (join_separate A B) (join_amounts A B) (all_map (λ v h. all_map (λ w e. sym e) B h) A equal))
    where
      separate : Separate K
      separate = named_separate A B ua ub K h.named h.ordered

      within : Within A B (amount_of K)
      within = record {
        alike = amount_apart A B ua ub K h.named;
        on_a = all_map (λ v k. omega (arith, k, used_sum A B ua ub master_a K h.named separate v.number)) A (h.within master_a);
        on_b = all_map (λ w k. omega (arith, k, used_sum A B ua ub master_b K h.named separate w.number)) B (h.within master_b);
      }

      equal : All (λ v. All (λ w. amount_of K v.number w.number ≡ amount_of (join A B) v.number w.number) B) A
      equal = join_unique A B ua ub (amount_of K) within free

  -- For a check by one pass over all pairs of one sort: one of the two nodes is used up, by links none of which comes after the pair.
  pub record Shut (v w : Node) : Type 0 where
    pub side : Master
    pub spent : used side K (number_in side (pair v w)) ≡ each v.capacity w.capacity side
    pub last : All (λ l. number_in side (pair_of l) ≡ number_in side (pair v w) → ¬ Before (pair v w) (pair_of l)) K

  -- A pair's amount counts in full where its link, if it has one, does not come after p.
  counts : Sensible → {v u : Node} (p : Pair) → Memᴰ v A → Memᴰ u B → ((r : Linked K v.number u.number) → ¬ Before p (pair_of r.it))
      → cond (earlier p (pair v u)) 0 (amount_of K v.number u.number) ≡ amount_of K v.number u.number
  unfolding pair
  counts h {v} {u} p i j late = go (amount_of K v.number u.number) refl
    where
      none : (t : Bool) (m : ℕ) → m ≡ 0 → cond t 0 m ≡ m
      none true m e = sym e
      none false m e = refl

      own : (r : Linked K v.number u.number) → pair_of r.it ≡ pair v u
      own r = own_pair A B ua ub (all_at (Named A B ua ub) h.named r.among) i j r.is_a r.is_b

      go : (m : ℕ) → amount_of K v.number u.number ≡ m → cond (earlier p (pair v u)) 0 (amount_of K v.number u.number) ≡ amount_of K v.number u.number
      go zero e = none (earlier p (pair v u)) (amount_of K v.number u.number) e
      go (suc m) e =
          let r : Linked K v.number u.number = linked K v.number u.number (omega arith) in
          rw (unless_before p (pair v u) (rw (own r) at (late r)))

  shut_free : Sensible → {v w : Node} → Memᴰ v A → Memᴰ w B → Shut v w → ¬ Blocked A B (amount_of K) v w
  unfolding pair
  shut_free h {v} {w} i j z k = go z.side z.spent z.last
    where
      separate : Separate K
      separate = named_separate A B ua ub K h.named h.ordered

      go : (s : Master) → used s K (number_in s (pair v w)) ≡ each v.capacity w.capacity s → All (λ l. number_in s (pair_of l) ≡ number_in s (pair v w) → ¬ Before (pair v w) (pair_of l)) K → ⊥
      go master_a e g = omega (
        arith,
        k.on_a,
        sum_cong (λ u. cond (earlier (pair v w) (pair v u)) 0 (amount_of K v.number u.number)) (λ u. amount_of K v.number u.number) B
            (all_in B (λ u m. counts h (pair v w) i m (λ r. all_at (λ l. l.a ≡ v.number → ¬ Before (pair v w) (pair_of l)) g r.among r.is_a))),
        used_sum A B ua ub master_a K h.named separate v.number,
      )
      go master_b e g = omega (
        arith,
        k.on_b,
        sum_cong (λ u. cond (earlier (pair v w) (pair u w)) 0 (amount_of K u.number w.number)) (λ u. amount_of K u.number w.number) A
            (all_in A (λ u m. counts h (pair v w) m j (λ r. all_at (λ l. l.b ≡ w.number → ¬ Before (pair v w) (pair_of l)) g r.among r.is_b))),
        used_sum A B ua ub master_b K h.named separate w.number,
      )

  pub links_shut : Sensible → All (λ v. All (λ w. v.sort ≡ w.sort → Shut v w) B) A → K ≡ join A B
  links_shut h g = links_unique h (all_in A (λ v i. all_in B (λ w j k.
      shut_free h i j (all_at (λ w. v.sort ≡ w.sort → Shut v w) (all_at (λ v. All (λ w. v.sort ≡ w.sort → Shut v w) B) g i) j k.alike) k)))
