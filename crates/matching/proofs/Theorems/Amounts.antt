-- The join's amounts are within all capacities, leave no pair blocked, and are the only ones that are and do.
use Rattle.std.specs.Prelude.{ℕ, ◌≤◌, Bool, cond, eqb}
use Rattle.std.proofs.Math.Path.{◌≡◌, refl, sym}
use Rattle.std.proofs.Common.{◌∙◌}
use Rattle.std.proofs.Math.Bool.{true, false}
use mathlib.Core.List.{List, Memᴰ}
use Rattle.std.proofs.Math.Decide.{ℕ_discrete}
use Rattle.matching.specs.Definitions.Lists.{All, sum_over}
use Rattle.matching.specs.declared.Master.TheVariants.{A as master_a, B as master_b}
use Rattle.matching.specs.Definitions.Nodes.{Node, Unique}
use Rattle.matching.specs.Definitions.Pairs.{Pair, pair, pairs, earlier}
use Rattle.matching.specs.Definitions.Links.{amount_of}
use Rattle.matching.specs.Definitions.Join.{capacities, join}
use Rattle.matching.specs.Definitions.Stability.{Within, Blocked, Unblocked}
use Rattle.matching.proofs.Laws.Lists.{all_in, all_at}
use Rattle.matching.proofs.Laws.Sorts.{only_sort}
use Rattle.matching.proofs.Laws.Sorting.{sort, sorted_sort, all_sort, all_unsort, sorted_join}
use Rattle.matching.proofs.Laws.Along.{amount_at}
use Rattle.matching.proofs.Laws.Greedy.{Strict, Greedy, at, upto, Fits, BlockedIn, stable_greedy, greedy_fits, greedy_free, greedy_unique, greedy_along}
use Rattle.matching.proofs.Laws.Sums.{column_a, column_b, capacity_at, all_pairs_lem, all_nodes, distinct_pairs, distinct_sort, strict}
use Rattle.matching.proofs.Laws.Amounts.{amount_apart}
use Rattle.matching.proofs.Theorems.Join.{join_sorted, join_nodes}

module _ (A B : List Node) (ua : Unique A) (ub : Unique B) where
  abbrev S : List Pair
  S = sort (pairs A B)

  strict_pairs : Strict S
  strict_pairs = strict S (sorted_sort (pairs A B)) (distinct_sort (pairs A B) (distinct_pairs A B ua ub))

  -- Amounts of pairs of one sort.
  module _ (x : ℕ → ℕ → ℕ) (only : All (λ v. All (λ w. (v.sort ≡ w.sort → ⊥) → x v.number w.number ≡ 0) B) A) where
    abbrev y : Pair → ℕ
    y p = x p.a p.b

    none : {v w : Node} → Memᴰ v A → Memᴰ w B → (v.sort ≡ w.sort → ⊥) → x v.number w.number ≡ 0
    none {v} {w} i j = all_at (λ w. (v.sort ≡ w.sort → ⊥) → x v.number w.number ≡ 0) (all_at (λ v. All (λ w. (v.sort ≡ w.sort → ⊥) → x v.number w.number ≡ 0) B) only i) j

    -- Sums over a node's pairs, where H is 0 with the amount.
    module _ (H : Pair → ℕ) (z : (p : Pair) → y p ≡ 0 → H p ≡ 0) where
      sum_a : {v : Node} → Memᴰ v A → sum_over (λ p. cond (eqb p.a v.number) (H p) 0) S ≡ sum_over (λ w. H (pair v w)) B
      unfolding pair
      sum_a {v} i = column_a H A B i ua ∙ only_sort v.sort (λ w. H (pair v w)) B (all_in B (λ w j n. z (pair v w) (none i j (λ e. n (sym e)))))

      sum_b : {w : Node} → Memᴰ w B → sum_over (λ p. cond (eqb p.b w.number) (H p) 0) S ≡ sum_over (λ v. H (pair v w)) A
      unfolding pair
      sum_b {w} j = column_b H A B j ub ∙ only_sort w.sort (λ v. H (pair v w)) A (all_in A (λ v i n. z (pair v w) (none i j n)))

    module _ {v w : Node} (i : Memᴰ v A) (j : Memᴰ w B) where
      G : Pair → ℕ
      G p = cond (earlier (pair v w) p) 0 (y p)

      G_none : (p : Pair) → y p ≡ 0 → G p ≡ 0
      unfolding G
      G_none p e = rw e (go (earlier (pair v w) p))
        where
          go : (t : Bool) → ◌≡◌ {A = ℕ} (cond t 0 0) 0
          go true = refl
          go false = refl

      blocked_to : v.sort ≡ w.sort → BlockedIn y (capacities A B) S (pair v w) → Blocked A B x v w
      unfolding upto capacities pair G
      blocked_to e k = record {
        alike = e;
        on_a = rw (sum_a G G_none i, capacity_at i ua) at (k master_a);
        on_b = rw (sum_b G G_none j, capacity_at j ub) at (k master_b);
      }

      blocked_from : Blocked A B x v w → BlockedIn y (capacities A B) S (pair v w)
      unfolding upto capacities pair G
      blocked_from k master_a = rw (sum_a G G_none i, capacity_at i ua) k.on_a
      blocked_from k master_b = rw (sum_b G G_none j, capacity_at j ub) k.on_b

      within_to : Within A B x → Fits y (capacities A B) S (pair v w)
      unfolding at capacities pair
      within_to h master_a = rw (sum_a y (λ p e. e) i, capacity_at i ua) (all_at (λ v. sum_over (λ w. x v.number w.number) B ≤ v.capacity) h.on_a i)
      within_to h master_b = rw (sum_b y (λ p e. e) j, capacity_at j ub) (all_at (λ w. sum_over (λ v. x v.number w.number) A ≤ w.capacity) h.on_b j)

    -- A property of every sorted pair is one of every two nodes of one sort.
    nodes_of : (P : Pair → Type 0) → All P S → {v w : Node} → Memᴰ v A → Memᴰ w B → v.sort ≡ w.sort → P (pair v w)
    nodes_of P h {v} {w} i j = all_at (λ w. v.sort ≡ w.sort → P (pair v w)) (all_at (λ v. All (λ w. v.sort ≡ w.sort → P (pair v w)) B) (all_nodes P A B (all_unsort P (pairs A B) h)) i) j

    of_nodes : (P : Pair → Type 0) → ((v w : Node) → Memᴰ v A → Memᴰ w B → v.sort ≡ w.sort → P (pair v w)) → All P S
    of_nodes P h = all_sort P (pairs A B) (all_pairs_lem P A B (all_in A (λ v i. all_in B (λ w j. h v w i j))))

    stable→greedy : Within A B x → Unblocked A B x → Greedy (capacities A B) y S
    stable→greedy h g = stable_greedy y S (capacities A B) strict_pairs
        (of_nodes (Fits y (capacities A B) S) (λ v w i j e. within_to i j h))
        (of_nodes (λ q. ¬ BlockedIn y (capacities A B) S q) (λ v w i j e k. all_at (λ w. ¬ Blocked A B x v w) (all_at (λ v. All (λ w. ¬ Blocked A B x v w) B) g i) j (blocked_to i j e k)))

    greedy→within : Greedy (capacities A B) y S → Within A B x
    unfolding at capacities pair
    greedy→within g = record {
      alike = only;
      on_a = all_in A (λ v i. rw (sum_a y (λ p e. e) i, capacity_at i ua) at (greedy_fits y S (capacities A B) g master_a v.number));
      on_b = all_in B (λ w j. rw (sum_b y (λ p e. e) j, capacity_at j ub) at (greedy_fits y S (capacities A B) g master_b w.number));
    }

    greedy→unblocked : Greedy (capacities A B) y S → Unblocked A B x
    greedy→unblocked g = all_in A (λ v i. all_in B (λ w j k.
        nodes_of (λ q. ¬ BlockedIn y (capacities A B) S q) (greedy_free y S (capacities A B) strict_pairs g) i j k.alike (blocked_from i j k)))

  greedy_join : Greedy (capacities A B) (amount_at (join A B)) S
  unfolding sorted_join
  greedy_join = rw (join_sorted A B) (greedy_along S (capacities A B) (distinct_sort (pairs A B) (distinct_pairs A B ua ub)))

  one_sort : All (λ v. All (λ w. (v.sort ≡ w.sort → ⊥) → amount_of (join A B) v.number w.number ≡ 0) B) A
  one_sort = amount_apart A B ua ub (join A B) (join_nodes A B)

  -- The join's amounts are within all capacities,
  pub join_within : Within A B (amount_of (join A B))
  join_within = greedy→within (amount_of (join A B)) one_sort greedy_join

  -- and they leave no pair blocked.
  pub join_unblocked : Unblocked A B (amount_of (join A B))
  join_unblocked = greedy→unblocked (amount_of (join A B)) one_sort greedy_join

  -- No other amounts are and do.
  pub join_unique : (x : ℕ → ℕ → ℕ) → Within A B x → Unblocked A B x
      → All (λ v. All (λ w. x v.number w.number ≡ amount_of (join A B) v.number w.number) B) A
  unfolding pair
  join_unique x h g = all_in A (λ v i. all_in B (λ w j. go i j (ℕ_discrete v.sort w.sort)))
    where
      go : {v w : Node} → Memᴰ v A → Memᴰ w B → Dec (v.sort ≡ w.sort) → x v.number w.number ≡ amount_of (join A B) v.number w.number
      go i j (yes e) = nodes_of x h.alike (λ p. x p.a p.b ≡ amount_at (join A B) p)
          (greedy_unique (λ p. x p.a p.b) (amount_at (join A B)) S (capacities A B) (stable→greedy x h.alike h g) greedy_join) i j e
      go i j (no n) = none x h.alike i j n ∙ sym (none (amount_of (join A B)) one_sort i j n)
