-- Each sort is joined by itself: the links of a sort are the join of its nodes alone, and the join is the links of both sorts in pair order.
use Rattle.std.specs.Prelude.{ℕ, zero, suc, ◌+◌, ◌≤◌, ◌≡◌, Bool, true, false, cond, not, eqb, ℤ}
use Rattle.std.proofs.Math.Path.{refl, sym, ap, ap₂, fun_ext}
use Rattle.std.proofs.Common.{◌∙◌, arith, eq-eqb, ne_eqb}
use mathlib.Core.List.{List, [], ◌∷◌, ◌++◌, map, Memᴰ}
use Rattle.std.proofs.Math.Decide.{ℕ_discrete}
use Rattle.std.proofs.Math.ListN.{length-map}
use Rattle.matching.specs.Definitions.Rows.{Sorts, range, size, node_in, nodes_on, nodes_of, Fits}
use Rattle.matching.specs.Definitions.Lists.{All, sum_over}
use Rattle.matching.specs.declared.Master.{Master}
use Rattle.matching.specs.declared.Master.TheVariants.{A as master_a, B as master_b}
use Rattle.matching.specs.Definitions.Nodes.{each, Node, Unique, has, of_sort, capacity_of}
use Rattle.matching.specs.Definitions.Pairs.{Pair, pair, pairs, earlier}
use Rattle.matching.specs.Definitions.Links.{Link, pair_of, amount_of, used, links_for}
use Rattle.matching.specs.Definitions.Join.{capacities, steps, whole, join}
use Rattle.matching.specs.Definitions.Stability.{Blocked, Unblocked}
use Rattle.matching.proofs.Laws.Lists.{all_map, all_in, all_at, all_true}
use Rattle.matching.proofs.Laws.Sorts.{all_of_sort, in_sort, of_sort_lem, unique_of_sort, sum_of_sort, only_sort, same_sort}
use Rattle.matching.proofs.Laws.Sums.{sum_cong}
use Rattle.matching.proofs.Laws.Amounts.{same_node, node_number, used_sum}
use Rattle.matching.proofs.Laws.Columns.{map-tabulate}
use Rattle.matching.proofs.Laws.Sets.{on_all}
use Rattle.matching.proofs.Laws.Both.{of_all, of_unique, of_sort_on, of_sort_off}
use Rattle.matching.proofs.Laws.Parts.{has_node, Found, found, all_for, increasing_for, used_for, amount_for, puts_parts}
use Rattle.matching.proofs.Theorems.Join.{Nodes, join_nodes, join_increasing, join_amounts, join_separate}
use Rattle.matching.proofs.Theorems.Amounts.{join_within, join_unblocked}
use Rattle.matching.proofs.Theorems.Checked.{Sensible, links_unique}
use Rattle.matching.proofs.Theorems.Mutual.{puts}

module _ (A B : List Node) (ua : Unique A) (ub : Unique B) where
  abbrev J : List Link
  J = join A B

  x_none : {v w : Node} → Memᴰ v A → Memᴰ w B → (v.sort ≡ w.sort → ⊥) → amount_of J v.number w.number ≡ 0
  x_none {v} {w} i j = all_at (λ w. (v.sort ≡ w.sort → ⊥) → amount_of J v.number w.number ≡ 0)
      (all_at (λ v. All (λ w. (v.sort ≡ w.sort → ⊥) → amount_of J v.number w.number ≡ 0) B) (join_within A B ua ub).alike i) j

  module _ (s : ℕ) where
    abbrev C : List Node
    C = of_sort s A

    abbrev D : List Node
    D = of_sort s B

    abbrev K : List Link
    K = links_for C J

    uc : Unique C
    uc = unique_of_sort s A ua

    ud : Unique D
    ud = unique_of_sort s B ub

    named : (l : Link) → Nodes A B (pair_of l) → has l.a C ≡ true → Nodes C D (pair_of l)
    named l n h = record { v = n.v; w = n.w; in_a = in_sort n.in_a own; in_b = in_sort n.in_b (sym n.alike ∙ own); alike = n.alike; is_pair = n.is_pair }
      where
        f : Found l.a C
        f = found l.a C h

        own : n.v.sort ≡ s
        own = ap (λ (u : Node). u.sort) (same_node n.in_a (of_sort_lem A f.among).0 ua (sym (node_number A B ua ub master_a n) ∙ sym f.is_number)) ∙ (of_sort_lem A f.among).1

    within : (t : Master) → All (λ v. used t K v.number ≤ v.capacity) (each C D t)
    within master_a = all_of_sort (λ v. used master_a K v.number ≤ v.capacity) s A (all_map (λ v k e.
        omega (arith, k, used_for C master_a J v.number, used_sum A B ua ub master_a J (join_nodes A B) (join_separate A B) v.number)) A (join_within A B ua ub).on_a)
    within master_b = all_of_sort (λ v. used master_b K v.number ≤ v.capacity) s B (all_map (λ v k e.
        omega (arith, k, used_for C master_b J v.number, used_sum A B ua ub master_b J (join_nodes A B) (join_separate A B) v.number)) B (join_within A B ua ub).on_b)

    sensible : Sensible C D uc ud K
    sensible = record {
      named = all_for C (λ l. Nodes C D (pair_of l)) J (all_map named J (join_nodes A B));
      ordered = increasing_for C J (join_increasing A B);
      positive = all_for C (λ l. 1 ≤ l.amount) J (all_map (λ l k e. k) J (join_amounts A B));
      within = within;
    }

    -- A sum up to a pair, over the nodes of the sort and over all.
    sum_all : (x y : Node → ℕ) (t : Node → Bool) (E : List Node) → All (λ u. x u ≡ y u) (of_sort s E) → All (λ u. (u.sort ≡ s → ⊥) → y u ≡ 0) E
        → sum_over (λ u. cond (t u) 0 (x u)) (of_sort s E) ≡ sum_over (λ u. cond (t u) 0 (y u)) E
    sum_all x y t E same none =
        sum_cong (λ u. cond (t u) 0 (x u)) (λ u. cond (t u) 0 (y u)) (of_sort s E) (all_map (λ u e. ap (cond (t u) 0) e) (of_sort s E) same)
        ∙ sum_of_sort s (λ u. cond (t u) 0 (y u)) E
        ∙ only_sort s (λ u. cond (t u) 0 (y u)) E (all_map (λ u h n. zeros (t u) (y u) (h n)) E none)
      where
        zeros : (t : Bool) (m : ℕ) → m ≡ 0 → cond t 0 m ≡ 0
        zeros true m e = refl
        zeros false m e = e

    blocked : {v w : Node} → Memᴰ v C → Memᴰ w D → Blocked C D (amount_of K) v w → Blocked A B (amount_of J) v w
    blocked {v} {w} i j k = record {
      alike = k.alike;
      on_a = rw (← sum_all (λ u. amount_of K v.number u.number) (λ u. amount_of J v.number u.number) (λ u. earlier (pair v w) (pair v u)) B
          (all_true (λ u. amount_for C v.number (has_node i) J u.number) D)
          (all_in B (λ u m n. x_none (of_sort_lem A i).0 m (λ e. n (sym e ∙ (of_sort_lem A i).1))))) k.on_a;
      on_b = rw (← sum_all (λ u. amount_of K u.number w.number) (λ u. amount_of J u.number w.number) (λ u. earlier (pair v w) (pair u w)) A
          (all_in C (λ u m. amount_for C u.number (has_node m) J w.number))
          (all_in A (λ u m n. x_none m (of_sort_lem B j).0 (λ e. n (e ∙ (of_sort_lem B j).1))))) k.on_b;
    }

    unblocked : Unblocked C D (amount_of K)
    unblocked = all_in C (λ v i. all_in D (λ w j k. all_at (λ w. ¬ Blocked A B (amount_of J) v w)
        (all_at (λ v. All (λ w. ¬ Blocked A B (amount_of J) v w) B) (join_unblocked A B ua ub) (of_sort_lem A i).0) (of_sort_lem B j).0 (blocked i j k)))

    -- The links of a sort are, in order, the join of its nodes alone.
    pub join_sort : links_for (of_sort s A) (join A B) ≡ join (of_sort s A) (of_sort s B)
    join_sort = links_unique C D uc ud K sensible unblocked

  -- A number is found among the nodes of its node's sort only.
  has-sort : (s : ℕ) {v : Node} → Memᴰ v A → has v.number (of_sort s A) ≡ eqb v.sort s
  has-sort s {v} i = go (ℕ_discrete v.sort s) (has v.number (of_sort s A)) refl
    where
      go : Dec (v.sort ≡ s) → (t : Bool) → has v.number (of_sort s A) ≡ t → has v.number (of_sort s A) ≡ eqb v.sort s
      go (yes e) t h = has_node (in_sort i e) ∙ sym (eq-eqb v.sort s e)
      go (no n) false h = h ∙ sym (ne_eqb v.sort s n)
      go (no n) true h =
          let f : Found v.number (of_sort s A) = found v.number (of_sort s A) h in
          absurd (n (ap (λ (u : Node). u.sort) (same_node i (of_sort_lem A f.among).0 ua (sym f.is_number)) ∙ (of_sort_lem A f.among).1))

  -- For a join of each sort by itself: the links of both, put in pair order, are the join.
  pub join_sorts : All (λ v. v.sort ≤ 1) A → puts (join (of_sort 0 A) (of_sort 0 B)) (join (of_sort 1 A) (of_sort 1 B)) ≡ join A B
  join_sorts two = ap₂ puts (sym (join_sort 0)) (sym (join_sort 1)) ∙ puts_parts (of_sort 0 A) (of_sort 1 A) J (join_increasing A B)
      (all_map (λ l n. apart n.v.sort (sym (node_number A B ua ub master_a n)) n.in_a refl (all_at (λ v. v.sort ≤ 1) two n.in_a)) J (join_nodes A B))
    where
      apart : {n : ℕ} {v : Node} (s : ℕ) → v.number ≡ n → Memᴰ v A → v.sort ≡ s → s ≤ 1 → has n (of_sort 1 A) ≡ not (has n (of_sort 0 A))
      apart zero d i e h = rw (← d, has-sort 1 i, has-sort 0 i, e)
      apart (suc zero) d i e h = rw (← d, has-sort 1 i, has-sort 0 i, e)
      apart (suc (suc s)) d i e h = absurd (omega arith)

-- Where all nodes are of one sort every two make a pair, as before there were sorts.
unfoldable pub all_pairs : List Node → List Node → List Pair
unfolding pair
all_pairs [] B = []
all_pairs (v ∷ A) B = map (pair v) B ++ all_pairs A B

pub pairs_alike : (s : ℕ) (A B : List Node) → All (λ v. v.sort ≡ s) A → All (λ w. w.sort ≡ s) B → pairs A B ≡ all_pairs A B
unfolding pairs all_pairs
pairs_alike s [] B h g = refl
pairs_alike s (v ∷ A) B h g = ap₂ (λ (C : List Node) (L : List Pair). map (pair v) C ++ L) (ap (λ (t : ℕ). of_sort t B) h.0 ∙ same_sort s B g) (pairs_alike s A B h.1 g)

-- So it does not matter which sort that is.
abbrev pub with_sort : ℕ → Node → Node
with_sort t v = record { number = v.number; x = v.x; y = v.y; capacity = v.capacity; sort = t }

module _ (t : ℕ) where
  with_all : (A : List Node) → All (λ v. v.sort ≡ t) (map (with_sort t) A)
  with_all [] = tt
  with_all (v ∷ A) = (refl, with_all A)

  with_capacity : (A : List Node) (n : ℕ) → capacity_of (map (with_sort t) A) n ≡ capacity_of A n
  unfolding capacity_of
  with_capacity [] n = refl
  with_capacity (v ∷ A) n = ap (cond (eqb v.number n) v.capacity) (with_capacity A n)

  with_pairs : (A B : List Node) → all_pairs (map (with_sort t) A) (map (with_sort t) B) ≡ all_pairs A B
  unfolding all_pairs pair
  with_pairs [] B = refl
  with_pairs (v ∷ A) B = ap₂ (λ (K L : List Pair). K ++ L) (row B) (with_pairs A B)
    where
      row : (C : List Node) → map (pair v) (map (with_sort t) C) ≡ map (pair v) C
      row [] = refl
      row (w ∷ C) = ap (λ (L : List Pair). pair v w ∷ L) (row C)

  pub join_alike : (s : ℕ) (A B : List Node) → All (λ v. v.sort ≡ s) A → All (λ w. w.sort ≡ s) B → join (map (with_sort t) A) (map (with_sort t) B) ≡ join A B
  unfolding join capacities
  join_alike s A B h g =
      let e : pairs (map (with_sort t) A) (map (with_sort t) B) ≡ pairs A B = pairs_alike t (map (with_sort t) A) (map (with_sort t) B) (with_all A) (with_all B) ∙ with_pairs A B ∙ sym (pairs_alike s A B h g) in
      λ i. steps whole (length-map A (with_sort t) i + length-map B (with_sort t) i) (e i) (each (fun_ext (with_capacity A) i) (fun_ext (with_capacity B) i))

-- For code: a set's rows of each sort are joined by themselves, whatever the sort, and put in pair order.
module _ (S : Sorts) (ns : List ℕ) (at : List (List ℤ)) (cs : List ℕ) (f : Fits ns at cs S) where
  recast : (m : Master) → map (with_sort 0) (nodes_on 1 S.off ns at cs m) ≡ nodes_on 0 S.off ns at cs m
  unfolding nodes_on
  recast m = map-tabulate (with_sort 0) (node_in 1 ns at cs) (range S.off m).from (size (range S.off m))

  off-join : join (nodes_on 1 S.off ns at cs master_a) (nodes_on 1 S.off ns at cs master_b) ≡ join (nodes_on 0 S.off ns at cs master_a) (nodes_on 0 S.off ns at cs master_b)
  off-join = sym (join_alike 0 1 (nodes_on 1 S.off ns at cs master_a) (nodes_on 1 S.off ns at cs master_b)
      (on_all 1 S.off ns at cs master_a (λ v. v.sort ≡ 1) (λ k h. refl)) (on_all 1 S.off ns at cs master_b (λ v. v.sort ≡ 1) (λ k h. refl)))
      ∙ ap₂ join (recast master_a) (recast master_b)

  pub rows_join : puts (join (nodes_on 0 S.on ns at cs master_a) (nodes_on 0 S.on ns at cs master_b)) (join (nodes_on 0 S.off ns at cs master_a) (nodes_on 0 S.off ns at cs master_b))
      ≡ join (nodes_of S ns at cs master_a) (nodes_of S ns at cs master_b)
  rows_join =
      ap₂ puts
      (ap₂ join (sym (of_sort_on S ns at cs master_a)) (sym (of_sort_on S ns at cs master_b)))
      (sym off-join ∙ ap₂ join (sym (of_sort_off S ns at cs master_a)) (sym (of_sort_off S ns at cs master_b)))
      ∙ join_sorts (nodes_of S ns at cs master_a) (nodes_of S ns at cs master_b) (of_unique S ns at cs master_a f) (of_unique S ns at cs master_b f)
      (of_all S ns at cs master_a (λ v. v.sort ≤ 1) (λ t k l h. l))
