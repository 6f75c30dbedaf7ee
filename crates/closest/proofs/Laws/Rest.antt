-- The links still to be taken, `rest`, when rows lose what a pair takes. Assumes nothing.
use Prim.Native.Nat.{ℕ, zero, suc, ◌+◌, ◌-◌, ◌<◌, ◌≤◌, min}
use mathlib.Core.Path.{◌≡◌, refl, sym, ◌∙◌, ap, ap₂, fun_ext}
use mathlib.Core.Bool.{cond}
use mathlib.Core.List.{List, [], ◌++◌, ◌∷◌, map, Memᴰ}
use native.Mathlib.Decide.{ℕ_discrete}
use native.Mathlib.Omega.{arith}
use lib.Dec.{eqb}
use lib.IntN.{ℤ}
use lib.ListN.{get_or, set, length-set}
use lib.Seq.{get_or-set_same, get_or-set_other}
use borrow.Author.Tests.{eq-eqb, ne_eqb}
use Rattle.matching.specs.Definitions.Lists.{All}
use Rattle.matching.specs.declared.Master.{Master}
use Rattle.matching.specs.declared.Master.TheVariants.{A as master_a, B as master_b}
use Rattle.matching.specs.Definitions.Nodes.{each, Node, capacity_of}
use Rattle.matching.specs.Definitions.Pairs.{Pair, number_in, distance, pair, pairs}
use Rattle.matching.specs.Definitions.Join.{Left, capacities, less, lesser, taken}
use Rattle.matching.specs.Definitions.Columns.{tabulate}
use Rattle.matching.specs.Definitions.Rows.{range, On, gap, node_in, nodes_on, link_of}
use Rattle.matching.proofs.Laws.Lists.{all_in}
use Rattle.matching.proofs.Laws.Left.{less_hit, less_other}
use Rattle.matching.proofs.Laws.Earliest.{Leq}
use Rattle.matching.proofs.Laws.Sorting.{sort, along, along_none, all_sort, sorted_join}
use Rattle.matching.proofs.Laws.Columns.{tabulate_all}
use Rattle.matching.proofs.Laws.Sets.{on_all}
use Rattle.matching.proofs.Laws.Sums.{all_pairs_lem, all_nodes}
use Rattle.matching.proofs.Theorems.Join.{join_sorted}
use Rattle.matching.proofs.Theorems.Sorts.{all_pairs, pairs_alike}
use Rattle.matching.proofs.Theorems.Mutual.{put_link, mutual_first}
use Rattle.closest.specs.declared.chain.Pick.{Pick}
use Rattle.closest.specs.Rows.{Rows, faces, row_pair, rest, Sound}
use Rattle.closest.specs.Nearest.{Chosen}
use Rattle.closest.specs.Chain.{amount, lose, link_row}
use Rattle.closest.proofs.Laws.Pairs.{between_on}
use Rattle.closest.proofs.Laws.Spans.{aligned}

-- A property of all that was tabulated, at one place.
tabulate_at : {X : Type 0} (P : X → Type 0) (f : ℕ → X) (k n i : ℕ) → All P (tabulate f k n) → k ≤ i → i < k + n → P (f i)
unfolding tabulate
tabulate_at P f k zero i h l g = absurd (omega arith)
tabulate_at P f k (suc n) i h l g = go (ℕ_discrete i k) h.0 (tabulate_at P f (suc k) n i h.1)
  where
    go : Dec (i ≡ k) → P (f k) → (suc k ≤ i → i < suc k + n → P (f i)) → P (f i)
    go (yes e) p ih = rw e p
    go (no e) p ih = ih (omega arith) (omega arith)

-- Rows, of which ks says what they have left.
module _ (ns : List ℕ) (at : List (List ℤ)) where
  -- The numbers from row k on, n of them, are distinct.
  abbrev Differ : ℕ → ℕ → Type 0
  Differ k n = (i j : ℕ) → k ≤ i → i < k + n → k ≤ j → j < k + n → get_or ns i 0 ≡ get_or ns j 0 → i ≡ j

  differ_later : (k n : ℕ) → Differ k (suc n) → Differ (suc k) n
  differ_later k n d i j a b c e = d i j (omega arith) (omega arith) (omega arith) (omega arith)

  -- What a row has left is its node's capacity.
  capacity_row : (ks : List ℕ) (k n i : ℕ) → Differ k n → k ≤ i → i < k + n → capacity_of (tabulate (node_in 0 ns at ks) k n) (get_or ns i 0) ≡ get_or ks i 0
  unfolding tabulate capacity_of
  capacity_row ks k zero i d l h = absurd (omega arith)
  capacity_row ks k (suc n) i d l h =
      go (ℕ_discrete (get_or ns k 0) (get_or ns i 0)) (capacity_of (tabulate (node_in 0 ns at ks) (suc k) n) (get_or ns i 0)) (capacity_row ks (suc k) n i (differ_later k n d))
    where
      go : Dec (get_or ns k 0 ≡ get_or ns i 0) → (z : ℕ) → (suc k ≤ i → i < suc k + n → z ≡ get_or ks i 0) → cond (eqb (get_or ns k 0) (get_or ns i 0)) (get_or ks k 0) z ≡ get_or ks i 0
      go (yes e) z ih = rw (eq-eqb (get_or ns k 0) (get_or ns i 0) e) (ap (λ (j : ℕ). get_or ks j 0) (d k i (omega arith) (omega arith) l h e))
      go (no e) z ih =
          let f : k ≡ i → ⊥ = λ q. e (ap (λ (j : ℕ). get_or ns j 0) q) in
          rw (ne_eqb (get_or ns k 0) (get_or ns i 0) e) (ih (omega arith) (omega arith))

  module _ (ks js : List ℕ) (i : ℕ) where
    capacity_other : (k n x : ℕ) → ((q : ℕ) → k ≤ q → q < k + n → (q ≡ i → ⊥) → get_or js q 0 ≡ get_or ks q 0) → (x ≡ get_or ns i 0 → ⊥)
        → capacity_of (tabulate (node_in 0 ns at js) k n) x ≡ capacity_of (tabulate (node_in 0 ns at ks) k n) x
    unfolding tabulate capacity_of
    capacity_other k zero x o d = refl
    capacity_other k (suc n) x o d = go (ℕ_discrete (get_or ns k 0) x) (capacity_other (suc k) n x (λ q a b. o q (omega arith) (omega arith)) d)
      where
        go : {y z : ℕ} → Dec (get_or ns k 0 ≡ x) → y ≡ z → cond (eqb (get_or ns k 0) x) (get_or js k 0) y ≡ cond (eqb (get_or ns k 0) x) (get_or ks k 0) z
        go (yes e) ih = rw (eq-eqb (get_or ns k 0) x e) (o k (omega arith) (omega arith) (λ q. d (sym e ∙ ap (λ (j : ℕ). get_or ns j 0) q)))
        go (no e) ih = rw (ne_eqb (get_or ns k 0) x e) ih

    -- Where row i alone has m less, its node has m less.
    capacity_less : (k n m : ℕ) → Differ k n → k ≤ i → i < k + n → ((q : ℕ) → k ≤ q → q < k + n → (q ≡ i → ⊥) → get_or js q 0 ≡ get_or ks q 0)
        → get_or js i 0 ≡ get_or ks i 0 - m → capacity_of (tabulate (node_in 0 ns at js) k n) ≡ less (capacity_of (tabulate (node_in 0 ns at ks) k n)) (get_or ns i 0) m
    capacity_less k n m d l h o e = fun_ext (λ x. go x (ℕ_discrete x (get_or ns i 0)))
      where
        before : ℕ → ℕ
        before = capacity_of (tabulate (node_in 0 ns at ks) k n)

        after : ℕ → ℕ
        after = capacity_of (tabulate (node_in 0 ns at js) k n)

        go : (x : ℕ) → Dec (x ≡ get_or ns i 0) → after x ≡ less before (get_or ns i 0) m x
        go x (yes f) = omega (arith, ap after f, ap before f, capacity_row js k n i d l h, capacity_row ks k n i d l h, less_hit before (get_or ns i 0) m x f)
        go x (no f) = omega (arith, capacity_other k n x o f, less_other before (get_or ns i 0) m x f)

  -- The pairs do not depend on what is left.
  same_pairs : (ks js : List ℕ) (k m l n : ℕ)
      → all_pairs (tabulate (node_in 0 ns at ks) k m) (tabulate (node_in 0 ns at ks) l n) ≡ all_pairs (tabulate (node_in 0 ns at js) k m) (tabulate (node_in 0 ns at js) l n)
  unfolding tabulate all_pairs pair distance
  same_pairs ks js k zero l n = refl
  same_pairs ks js k (suc m) l n = ap₂ ◌++◌ (row l n) (same_pairs ks js (suc k) m l n)
    where
      row : (l n : ℕ) → map (pair (node_in 0 ns at ks k)) (tabulate (node_in 0 ns at ks) l n) ≡ map (pair (node_in 0 ns at js k)) (tabulate (node_in 0 ns at js) l n)
      row l zero = refl
      row l (suc n) = ap (λ (K : List Pair). pair (node_in 0 ns at ks k) (node_in 0 ns at ks l) ∷ K) (row (suc l) n)

module _ (R : Rows) (left : List ℕ) (v : Sound R left) where
  abbrev nodes : Master → List Node
  nodes = nodes_on 0 R.spans R.ns R.at left

  abbrev P : List Pair
  P = pairs (nodes master_a) (nodes master_b)

  abbrev C : Left
  C = capacities (nodes master_a) (nodes master_b)

  -- A master's rows, as a first row and a count.
  abbrev first : Master → ℕ
  first m = (range R.spans m).from

  abbrev count : Master → ℕ
  count m = (range R.spans m).to - (range R.spans m).from

  low : (m : Master) (k : ℕ) → k < first m + count m → k < (range R.spans m).to
  low m k h = omega (arith, (aligned v.spans m).order)

  high : (m : Master) (k : ℕ) → On R.spans m k → k < first m + count m
  high m k h = omega arith

  differ : (m : Master) → Differ R.ns R.at (first m) (count m)
  differ m i j a b c d e = v.distinct m i j (a, low m i b) (c, low m j d) e

  capacity_on : (m : Master) (k : ℕ) → On R.spans m k → C m (get_or R.ns k 0) ≡ get_or left k 0
  unfolding capacities nodes_on
  capacity_on master_a k h = capacity_row R.ns R.at left (first master_a) (count master_a) k (differ master_a) h.0 (high master_a k h)
  capacity_on master_b k h = capacity_row R.ns R.at left (first master_b) (count master_b) k (differ master_b) h.0 (high master_b k h)

  lesser_is : (i j : ℕ) → On R.spans master_a i → On R.spans master_b j → lesser C (row_pair R i j) ≡ min (get_or left i 0) (get_or left j 0)
  unfolding lesser
  lesser_is i j hi hj = rw (capacity_on master_a i hi, capacity_on master_b j hj)

  -- A property of every two rows holds of every pair, and back.
  all_rows : (Q : Pair → Type 0) → ((i j : ℕ) → On R.spans master_a i → On R.spans master_b j → Q (row_pair R i j)) → All Q P
  unfolding pair distance gap nodes_on
  all_rows Q h = all_pairs_lem Q (nodes master_a) (nodes master_b)
      (tabulate_all (λ x. All (λ y. x.sort ≡ y.sort → Q (pair x y)) (nodes master_b)) (node_in 0 R.ns R.at left) (first master_a) (count master_a) (λ i a b.
      tabulate_all (λ y. 0 ≡ y.sort → Q (pair (node_in 0 R.ns R.at left i) y)) (node_in 0 R.ns R.at left) (first master_b) (count master_b) (λ j c d e.
      h i j (a, low master_a i b) (c, low master_b j d))))

  row_among : (i j : ℕ) → On R.spans master_a i → On R.spans master_b j → Memᴰ (row_pair R i j) P
  unfolding pair distance gap nodes_on
  row_among i j hi hj =
      tabulate_at (λ y. 0 ≡ y.sort → Memᴰ (pair (node_in 0 R.ns R.at left i) y) P) (node_in 0 R.ns R.at left) (first master_b) (count master_b) j
      (tabulate_at (λ x. All (λ y. x.sort ≡ y.sort → Memᴰ (pair x y) P) (nodes master_b)) (node_in 0 R.ns R.at left) (first master_a) (count master_a) i
      (all_nodes (λ q. Memᴰ q P) (nodes master_a) (nodes master_b) (all_in P (λ q m. m))) hi.0 (high master_a i hi)) hj.0 (high master_b j hj) refl

  -- All nodes are of one sort.
  alike : (js : List ℕ) (m : Master) → All (λ w. w.sort ≡ 0) (nodes_on 0 R.spans R.ns R.at js m)
  alike js m = on_all 0 R.spans R.ns R.at js m (λ w. w.sort ≡ 0) (λ k h. refl)

  same_nodes : (js : List ℕ) → P ≡ pairs (nodes_on 0 R.spans R.ns R.at js master_a) (nodes_on 0 R.spans R.ns R.at js master_b)
  unfolding nodes_on
  same_nodes js =
      pairs_alike 0 (nodes master_a) (nodes master_b) (alike left master_a) (alike left master_b)
      ∙ same_pairs R.ns R.at left js (first master_a) (count master_a) (first master_b) (count master_b)
      ∙ sym (pairs_alike 0 (nodes_on 0 R.spans R.ns R.at js master_a) (nodes_on 0 R.spans R.ns R.at js master_b) (alike js master_a) (alike js master_b))

  -- No pair can be taken: no link is left.
  pub rest_none : ((i j : ℕ) → On R.spans master_a i → On R.spans master_b j → min (get_or left i 0) (get_or left j 0) ≡ 0) → rest R left ≡ []
  unfolding rest sorted_join
  rest_none h =
      join_sorted (nodes master_a) (nodes master_b)
      ∙ along_none (sort P) C (all_sort (λ q. lesser C q ≡ 0) P (all_rows (λ q. lesser C q ≡ 0) (λ i j hi hj. lesser_is i j hi hj ∙ h i j hi hj)))

  -- The rows of a pair lose m.
  module _ (p : Pick) (hi : On R.spans master_a p.a) (hj : On R.spans master_b p.b) (m : ℕ) where
    abbrev i : ℕ
    i = p.a

    abbrev j : ℕ
    j = p.b

    at_row : (s : Master) → get_or (lose left p m) (each i j s) 0 ≡ get_or left (each i j s) 0 - m
    at_row master_a =
        get_or-set_other (set left i (get_or left i 0 - m)) j i (get_or left j 0 - m) 0 (λ e. omega (arith, v.spans.below, v.spans.above))
        ∙ get_or-set_same left i (get_or left i 0 - m) 0 (omega (arith, v.capacities, v.spans.below))
    at_row master_b = get_or-set_same (set left i (get_or left i 0 - m)) j (get_or left j 0 - m) 0 (simp length-set (omega (arith, v.capacities, v.spans.end)))

    pub off_rows : (q : ℕ) → (q ≡ i → ⊥) → (q ≡ j → ⊥) → get_or (lose left p m) q 0 ≡ get_or left q 0
    off_rows q a b = get_or-set_other (set left i (get_or left i 0 - m)) j q (get_or left j 0 - m) 0 b ∙ get_or-set_other left i q (get_or left i 0 - m) 0 a

    pub lose_le : (q : ℕ) → get_or (lose left p m) q 0 ≤ get_or left q 0
    lose_le q = go (ℕ_discrete q i) (ℕ_discrete q j)
      where
        go : Dec (q ≡ i) → Dec (q ≡ j) → get_or (lose left p m) q 0 ≤ get_or left q 0
        go (yes e) f = omega (arith, at_row master_a, ap (λ (k : ℕ). get_or (lose left p m) k 0) e, ap (λ (k : ℕ). get_or left k 0) e)
        go (no e) (yes f) = omega (arith, at_row master_b, ap (λ (k : ℕ). get_or (lose left p m) k 0) f, ap (λ (k : ℕ). get_or left k 0) f)
        go (no e) (no f) = omega (arith, off_rows q e f)

    lost : (d : ℕ) (s : Master) → taken C (record { distance = d; a = get_or R.ns i 0; b = get_or R.ns j 0 }) m s
        ≡ capacities (nodes_on 0 R.spans R.ns R.at (lose left p m) master_a) (nodes_on 0 R.spans R.ns R.at (lose left p m) master_b) s
    unfolding taken capacities nodes_on
    lost d master_a = sym (capacity_less R.ns R.at left (lose left p m) i (first master_a) (count master_a) m (differ master_a) hi.0 (high master_a i hi)
        (λ q a b e. off_rows q e (λ f. omega (arith, low master_a q b, v.spans.below, v.spans.above))) (at_row master_a))
    lost d master_b = sym (capacity_less R.ns R.at left (lose left p m) j (first master_b) (count master_b) m (differ master_b) hj.0 (high master_b j hj)
        (λ q a b e. off_rows q (λ f. omega (arith, v.spans.below, v.spans.above)) e) (at_row master_b))

  -- Taking a pair that is the earliest of both its nodes leaves its link to be put in at its place.
  module _ (p : Pick) (hi : On R.spans master_a p.a) (hj : On R.spans master_b p.b) (a : Chosen R left p.a p.b p.distance) (b : Chosen R left p.b p.a p.distance) where
    foremost : (s : Master) (k l : ℕ) → On R.spans master_a k → On R.spans master_b l → 1 ≤ lesser C (row_pair R k l)
        → number_in s (row_pair R k l) ≡ number_in s (row_pair R p.a p.b) → Leq (row_pair R p.a p.b) (row_pair R k l)
    foremost master_a k l hk hl n e =
        rw (v.distinct master_a k p.a hk hi e)
        (rw (between_on R v.spans master_a p.a p.b hi, between_on R v.spans master_a p.a l hi) at (a.nearest l (faces master_a hi hl) (omega (arith, lesser_is k l hk hl))))
    foremost master_b k l hk hl n e =
        rw (v.distinct master_b l p.b hl hj e)
        (rw (between_on R v.spans master_b p.b p.a hj, between_on R v.spans master_b p.b k hj) at (b.nearest k (faces master_b hj hk) (omega (arith, lesser_is k l hk hl))))

    pub rest_take : rest R left ≡ put_link (link_of (link_row R p (amount left p))) (rest R (lose left p (amount left p)))
    unfolding rest sorted_join
    rest_take =
        join_sorted (nodes master_a) (nodes master_b)
        ∙ mutual_first P C (row_pair R p.a p.b) (record { among = row_among p.a p.b hi hj; first = λ s. all_rows _ (foremost s) }) (omega (arith, is, a.alive, b.alive))
        ∙ rw (is, ← a.is_d)
        (ap (put_link (link_of (link_row R p (amount left p))))
        (ap₂ (λ (L : List Pair) (c : Left). along (sort L) c) (same_nodes (lose left p (amount left p))) (fun_ext (lost p hi hj (amount left p) p.distance))
        ∙ sym (join_sorted (new master_a) (new master_b))))
      where
        is : lesser C (row_pair R p.a p.b) ≡ amount left p
        is = lesser_is p.a p.b hi hj

        new : Master → List Node
        new = nodes_on 0 R.spans R.ns R.at (lose left p (amount left p))
