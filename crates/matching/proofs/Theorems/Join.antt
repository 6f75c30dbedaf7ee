-- What the join is: along the sorted pairs, nothing left, how many links, in which order, of which nodes.
use Rattle.std.specs.Prelude.{ℕ, suc, ◌+◌, ◌≤◌, pred, ◌≡◌, refl, take, drop}
use Rattle.std.proofs.Common.{sym, ◌∙◌, ap, arith, take-append-drop}
use Rattle.std.proofs.Math.Option.{Option, none, some}
use mathlib.Core.List.{List, [], ◌∷◌, Memᴰ, append-nil, append_cancel_left, cons≢nil}
use Rattle.std.proofs.Math.ListN.{length}
use Rattle.matching.specs.Definitions.Lists.{All}
use Rattle.matching.specs.Definitions.Nodes.{Node}
use Rattle.matching.specs.Definitions.Pairs.{Pair, pair, pairs}
use Rattle.matching.specs.Definitions.Links.{Link, link, pair_of, Increasing}
use Rattle.matching.specs.Definitions.Join.{Left, capacities, lesser, taken, earliest, follow, steps, whole, join}
use Rattle.matching.proofs.Laws.Lists.{all_map, all_true, all_in}
use Rattle.matching.proofs.Laws.Earliest.{none_left}
use Rattle.matching.proofs.Laws.Sorting.{sort, sorted_sort, all_sort, along, sorted_join}
use Rattle.matching.proofs.Laws.Along.{links_sound, increasing, Separate, separate}
use Rattle.matching.proofs.Laws.Sums.{all_pairs_lem}
use Rattle.matching.proofs.Laws.Steps.{steps-sort, steps-along, after, steps_split, steps-take}
use Rattle.matching.proofs.Laws.Count.{count_join}

-- With at least nodes of A + nodes of B steps, the steps are those along the sorted pairs,
pub steps_enough : (A B : List Node) (n : ℕ) (c : Left) → length A + length B ≤ n → steps whole n (pairs A B) c ≡ along (sort (pairs A B)) c
steps_enough A B n c h =
    sym (steps-sort whole n (pairs A B) c) ∙ steps-along (sort (pairs A B)) (sorted_sort (pairs A B)) n c (omega (arith, count_join A B c))

-- and so is the join.
pub join_sorted : (A B : List Node) → join A B ≡ sorted_join A B
unfolding join sorted_join
join_sorted A B = steps_enough A B (length A + length B) (capacities A B) (omega arith)

-- More steps change nothing,
pub join_final : (A B : List Node) (n : ℕ) → length A + length B ≤ n → steps whole n (pairs A B) (capacities A B) ≡ join A B
unfolding sorted_join
join_final A B n h = steps_enough A B n (capacities A B) h ∙ sym (join_sorted A B)

-- for no pair has something left at both its nodes.
follow_nil : (rest : Left → List Link) (c : Left) (o : Option Pair) → follow whole rest c o ≡ [] → o ≡ none
unfolding follow
follow_nil rest c none e = refl
follow_nil rest c (some p) e = absurd (cons≢nil e)

pub join_exhausted : (A B : List Node) → All (λ p. lesser (after (join A B) (capacities A B)) p ≡ 0) (pairs A B)
unfolding steps join
join_exhausted A B = none_left (pairs A B) end (follow_nil (steps whole 0 (pairs A B)) end (earliest (pairs A B) end)
    (append_cancel_left (join A B) (steps whole 1 (pairs A B) end) []
    (sym (steps_split (pairs A B) (length A + length B) 1 (capacities A B)) ∙ join_final A B (length A + length B + 1) (omega arith) ∙ sym (append-nil (join A B)))))
  where
    end : Left
    end = after (join A B) (capacities A B)

-- At most nodes of A + nodes of B - 1 links; without nodes in one master there is none.
pub join_count : (A B : List Node) → length (join A B) ≤ pred (length A + length B)
unfolding sorted_join
join_count A B = rw (join_sorted A B) (count_join A B (capacities A B))

pub join_none_a : (B : List Node) → join [] B ≡ []
unfolding sorted_join
join_none_a B = join_sorted [] B

pairs_none : (A : List Node) → pairs A [] ≡ []
unfolding pairs
pairs_none [] = refl
pairs_none (v ∷ A) = pairs_none A

pub join_none_b : (A : List Node) → join A [] ≡ []
unfolding sorted_join
join_none_b A = join_sorted A [] ∙ rw (pairs_none A)

-- The links stand in strict pair order,
pub join_increasing : (A B : List Node) → Increasing (join A B)
unfolding sorted_join
join_increasing A B = rw (join_sorted A B) (increasing (sort (pairs A B)) (capacities A B) (sorted_sort (pairs A B)))

-- with amounts of at least 1.
pub join_amounts : (A B : List Node) → All (λ (l : Link). 1 ≤ l.amount) (join A B)
unfolding sorted_join
join_amounts A B = rw (join_sorted A B) (all_map (λ l s. s.low) (along (sort (pairs A B)) (capacities A B)) (links_sound (λ p. Unit {0}) (sort (pairs A B)) (capacities A B) (all_true (λ p. tt) (sort (pairs A B)))))

-- Each link is of an A node and a B node of one sort, with their squared distance.
pub record Nodes (A B : List Node) (p : Pair) : Type 0 where
  pub v : Node
  pub w : Node
  pub in_a : Memᴰ v A
  pub in_b : Memᴰ w B
  pub alike : v.sort ≡ w.sort
  pub is_pair : p ≡ pair v w

pub join_nodes : (A B : List Node) → All (λ (l : Link). Nodes A B (pair_of l)) (join A B)
unfolding sorted_join
join_nodes A B = rw (join_sorted A B) (all_map (λ l s. s.of) (along (sort (pairs A B)) (capacities A B))
    (links_sound (Nodes A B) (sort (pairs A B)) (capacities A B) (all_sort (Nodes A B) (pairs A B) (all_pairs_lem (Nodes A B) A B
    (all_in A (λ v i. all_in B (λ w j e. record { v = v; w = w; in_a = i; in_b = j; alike = e; is_pair = refl })))))))

-- No two links have the same numbers.
pub join_separate : (A B : List Node) → Separate (join A B)
unfolding sorted_join
join_separate A B = rw (join_sorted A B) (separate (sort (pairs A B)) (capacities A B))

-- The links from the k-th on are taken from what is left after the first k.
pub join_next : (A B : List Node) (k n : ℕ) → length A + length B ≤ n
    → drop k (join A B) ≡ steps whole n (pairs A B) (after (take k (join A B)) (capacities A B))
join_next A B k n h = append_cancel_left (take k (join A B)) (drop k (join A B)) (steps whole n (pairs A B) (after (take k (join A B)) (capacities A B)))
    (take-append-drop k (join A B) ∙ sym long ∙ steps_split (pairs A B) k n (capacities A B) ∙ rw head)
  where
    long : steps whole (k + n) (pairs A B) (capacities A B) ≡ join A B
    long = join_final A B (k + n) (omega arith)

    head : steps whole k (pairs A B) (capacities A B) ≡ take k (join A B)
    head = sym (steps-take (pairs A B) k n (capacities A B)) ∙ ap (take k) long

-- What is left then decides the next link,
module _ (A B : List Node) (k : ℕ) where
  abbrev pub rest : Left
  rest = after (take k (join A B)) (capacities A B)

  pub join_row : (p : Pair) → earliest (pairs A B) rest ≡ some p
      → drop k (join A B) ≡ link p (lesser rest p) ∷ steps whole (length A + length B) (pairs A B) (taken rest p (lesser rest p))
  unfolding steps follow
  join_row p e = join_next A B k (suc (length A + length B)) (omega arith) ∙ rw e

  -- or that there is none.
  pub join_end : earliest (pairs A B) rest ≡ none → drop k (join A B) ≡ []
  unfolding steps follow
  join_end e = join_next A B k (suc (length A + length B)) (omega arith) ∙ rw e
