-- Links in rows, one link more: their order, and what they take of each row. Assumes nothing.
use Prim.Native.Nat.{ℕ, zero, suc, ◌+◌, ◌-◌, ◌≤◌, ◌<◌}
use mathlib.Core.Path.{◌≡◌, refl, sym, ◌∙◌, ap}
use mathlib.Core.Bool.{cond}
use mathlib.Core.List.{List, [], ◌∷◌, ◌++◌}
use native.Mathlib.Decide.{ℕ_discrete}
use native.Mathlib.Nat.{zero-add}
use native.Mathlib.Numerals.{add-one}
use native.Mathlib.Omega.{arith}
use borrow.Author.Count.{below_none, below_more}
use borrow.Author.Tests.{eq-eqb, ne_eqb}
use lib.Dec.{eqb}
use lib.IntN.{ℤ}
use lib.ListN.{length, get_or, set, replicate, length-set}
use lib.Seq.{get_or-set_same, get_or-set_other}
use Rattle.matching.specs.Definitions.Rows.{Sorts, Fits, spans_of, On, link_in, links_in}
use Rattle.matching.specs.Definitions.Lists.{sum_over}
use Rattle.matching.specs.declared.Master.{Master}
use Rattle.matching.specs.declared.Master.TheVariants.{A as master_a, B as master_b}
use Rattle.matching.specs.Definitions.Pairs.{number_in, Before}
use Rattle.matching.specs.Definitions.Links.{Link, pair_of, used, Increasing}
use Rattle.matching.specs.Definitions.Columns.{tabulate}
use Rattle.matching.proofs.Laws.Columns.{tabulate_all, tabulate_snoc}
use Rattle.matching.proofs.Laws.Order.{before_trans}
use Rattle.matching.proofs.Laws.Sums.{sum_append}
use Rattle.stability.specs.Links.{Ordered, key_of, Within, Spent, Ready, Taken, Side, Took}
use Rattle.stability.proofs.Laws.Ranges.{on_one, fits_distinct, in_set}

module _ (f : ℕ → Link) where
  abbrev Rises : ℕ → Type 0
  Rises i = Before (pair_of (f i)) (pair_of (f (i + 1)))

  -- From row k to a later one.
  rises : (k m : ℕ) → ((i : ℕ) → k ≤ i → i < k + suc m → Rises i) → Before (pair_of (f k)) (pair_of (f (k + suc m)))
  rises k zero h = h k (omega arith) (omega arith)
  rises k (suc m) h =
      let e : k + suc m + 1 ≡ k + suc (suc m) = omega arith in
      before_trans (rises k m (λ i l g. h i l (omega arith))) (rw e at (h (k + suc m) (omega arith) (omega arith)))

  increasing : (k n : ℕ) → ((i : ℕ) → k ≤ i → i + 1 < k + n → Rises i) → Increasing (tabulate f k n)
  unfolding tabulate
  increasing k zero h = tt
  increasing k (suc n) h = (
    tabulate_all (λ l. Before (pair_of (f k)) (pair_of l)) f (suc k) n (λ i l g. later i l (omega arith)),
    increasing (suc k) n (λ i l g. h i (omega arith) (omega arith)),
  )
    where
      later : (i : ℕ) → suc k ≤ i → i < k + suc n → Before (pair_of (f k)) (pair_of (f i))
      later i l g =
          let e : k + suc (i - suc k) ≡ i = omega arith in
          rw e at (rises k (i - suc k) (λ z a b. h z a (omega arith)))

-- Links that each come before the next are in order.
pub ordered_increasing : (L : List (List ℕ)) (n : ℕ) → Ordered L n → Increasing (links_in L n)
unfolding links_in
ordered_increasing L n h = increasing (link_in L) 0 n (λ i l g. h i (omega arith))

-- What one link more takes of a node.
used_more : (L : List (List ℕ)) (m : Master) (n x : ℕ) → used m (links_in L (n + 1)) x ≡ used m (links_in L n) x + cond (eqb (number_in m (pair_of (link_in L n))) x) (link_in L n).amount 0
unfolding used links_in tabulate sum_over
used_more L m n x =
    rw (add-one n)
    (ap (sum_over W) (tabulate_snoc (link_in L) 0 n ∙ ap (λ (i : ℕ). tabulate (link_in L) 0 n ++ (link_in L i ∷ [])) (zero-add n))
    ∙ sum_append W (tabulate (link_in L) 0 n) (link_in L n ∷ [])
    ∙ omega arith)
  where
    W : Link → ℕ
    W l = cond (eqb (number_in m (pair_of l)) x) l.amount 0

-- Nothing is taken yet.
pub zeros : (n i : ℕ) → get_or (replicate {A = ℕ} n 0) i 0 ≡ 0
zeros zero i = refl
zeros (suc n) zero = refl
zeros (suc n) (suc i) = zeros n i

-- What is taken stays within the capacities.
pub within_more : (cs : List ℕ) (m k i : ℕ) (taken last taken' last' : List ℕ) → i < length taken → Within cs taken → Spent cs m k i taken last taken' last' → Within cs taken'
within_more cs m k i taken last taken' last' l w s j = rw s.amount (go (ℕ_discrete j i))
  where
    go : Dec (j ≡ i) → get_or (set taken i (get_or taken i 0 + m)) j 0 ≤ get_or cs j 0
    go (yes e) = rw (e, get_or-set_same taken i (get_or taken i 0 + m) 0 l) s.fits
    go (no e) = rw (get_or-set_other taken i j (get_or taken i 0 + m) 0 e) (w j)

module _ (ns cs : List ℕ) (S : Sorts) (L : List (List ℕ)) where
  side_none : (taken last : List ℕ) → ((i : ℕ) → get_or taken i 0 ≡ 0) → (m : Master) → Side ns S L 0 taken last m
  unfolding used links_in tabulate sum_over
  side_none taken last z m = record { sums = λ u i h. z i; keys = λ k h. absurd (omega arith) }

  -- What is taken of another row.
  side_other : (n a k i : ℕ) (taken last taken' last' : List ℕ) (m : Master) → ((u : ℕ) → On (spans_of S u) m i → ⊥) → Side ns S L n taken last m
      → Spent cs a k i taken last taken' last' → Side ns S L n taken' last' m
  side_other n a k i taken last taken' last' m off h t = record {
    sums = λ u j g. rw (t.amount, get_or-set_other taken i j (get_or taken i 0 + a) 0 (λ e. off u (rw e at g))) (h.sums u j g);
    keys = λ z l u j g e. rw (t.kept, get_or-set_other last i j k 0 (λ f. off u (rw f at g))) (h.keys z l u j g e);
  }

  -- Link k is taken of row i.
  module _ (k i : ℕ) (taken last taken' last' : List ℕ) (m : Master)
      (distinct : (u v p q : ℕ) → On (spans_of S u) m p → On (spans_of S v) m q → get_or ns p 0 ≡ get_or ns q 0 → p ≡ q)
      (sort : ℕ) (on : On (spans_of S sort) m i) (here : get_or ns i 0 ≡ number_in m (pair_of (link_in L k))) (room-t : i < length taken) (room-l : i < length last)
      (h : Side ns S L k taken last m) (t : Spent cs (link_in L k).amount (key_of m (link_in L k)) i taken last taken' last') where
    sums_more : (u j : ℕ) → On (spans_of S u) m j → get_or taken' j 0 ≡ used m (links_in L (k + 1)) (get_or ns j 0)
    sums_more u j g = rw (used_more L m k (get_or ns j 0), t.amount) (go (ℕ_discrete j i))
      where
        go : Dec (j ≡ i) → get_or (set taken i (get_or taken i 0 + (link_in L k).amount)) j 0 ≡ used m (links_in L k) (get_or ns j 0) + cond (eqb (number_in m (pair_of (link_in L k))) (get_or ns j 0)) (link_in L k).amount 0
        go (yes e) =
            rw (e, get_or-set_same taken i (get_or taken i 0 + (link_in L k).amount) 0 room-t, eq-eqb (number_in m (pair_of (link_in L k))) (get_or ns i 0) (sym here))
            (omega (arith, h.sums sort i on))
        go (no e) =
            rw (get_or-set_other taken i j (get_or taken i 0 + (link_in L k).amount) 0 e, ne_eqb (number_in m (pair_of (link_in L k))) (get_or ns j 0) (λ f. e (distinct u sort j i g on (sym f ∙ sym here))))
            (omega (arith, h.sums u j g))

    -- Link z is not past what its row keeps.
    abbrev Covered : ℕ → Type 0
    Covered z = (u j : ℕ) → On (spans_of S u) m j → get_or ns j 0 ≡ number_in m (pair_of (link_in L z)) → key_of m (link_in L z) ≤ get_or last' j 0

    kept_here : get_or last' i 0 ≡ key_of m (link_in L k)
    kept_here = rw t.kept (get_or-set_same last i (key_of m (link_in L k)) 0 room-l)

    keys_more : (z : ℕ) → z < k + 1 → Covered z
    keys_more = below_more Covered k old (λ u j g e. let f : j ≡ i = distinct u sort j i g on (e ∙ sym here) in rw f (omega (arith, kept_here)))
      where
        old : (z : ℕ) → z < k → Covered z
        old z l u j g e = go (ℕ_discrete j i)
          where
            go : Dec (j ≡ i) → key_of m (link_in L z) ≤ get_or last' j 0
            go (yes f) = rw f (omega (arith, kept_here, rw f at (h.keys z l u j g e), t.later))
            go (no f) = rw (t.kept, get_or-set_other last i j (key_of m (link_in L k)) 0 f) (h.keys z l u j g e)

    side_more : Side ns S L (k + 1) taken' last' m
    side_more = record { sums = sums_more; keys = keys_more }

module _ (ns : List ℕ) (at : List (List ℤ)) (cs : List ℕ) (S : Sorts) (L P : List (List ℕ)) where
  pub took_none : (taken last : List ℕ) → Ready cs taken last → ((i : ℕ) → get_or taken i 0 ≡ 0) → Took ns at cs S L P 0 taken last
  took_none taken last r z = record {
    room = r.room;
    within = r.within;
    stands = below_none _;
    some = below_none _;
    side = side_none ns cs S L taken last z;
  }

  -- The next link is taken.
  pub took_more : (k : ℕ) (taken last taken' last' : List ℕ) → Fits ns at cs S → Took ns at cs S L P k taken last
      → Taken ns at cs S (link_in L k) (get_or (get_or P k []) 0 0) (get_or (get_or P k []) 1 0) taken last taken' last' → Took ns at cs S L P (k + 1) taken' last'
  took_more k taken last taken' last' f t x = record {
    room = (rw x.second.amount (length-set x.between j _ ∙ mid.0 ∙ t.room.0), rw x.second.kept (length-set x.kept j _ ∙ mid.1 ∙ t.room.1));
    within = within_more cs _ _ j _ _ _ _ in_b.0 (within_more cs _ _ i _ _ _ _ in_a.0 t.within x.first) x.second;
    stands = below_more _ k t.stands x.stands;
    some = below_more _ k t.some x.first.some;
    side = both;
  }
    where
      i : ℕ
      i = get_or (get_or P k []) 0 0

      j : ℕ
      j = get_or (get_or P k []) 1 0

      sort : ℕ
      sort = x.stands.sort

      on_a : On (spans_of S sort) master_a i
      on_a = x.stands.rows.on master_a

      on_b : On (spans_of S sort) master_b j
      on_b = x.stands.rows.on master_b

      mid : (length x.between ≡ length taken) × (length x.kept ≡ length last)
      mid = (rw x.first.amount (length-set taken i _), rw x.first.kept (length-set last i _))

      in_a : (i < length taken) × (i < length last)
      in_a = let h = in_set f sort master_a i on_a in (omega (arith, t.room.0), omega (arith, t.room.1))

      in_b : (j < length x.between) × (j < length x.kept)
      in_b =
          let h = in_set f sort master_b j on_b in
          let e = mid in
          (omega (arith, t.room.0), omega (arith, t.room.1))

      both : (m : Master) → Side ns S L (k + 1) taken' last' m
      both master_a = side_other ns cs S L (k + 1) _ _ j _ _ _ _ master_a (λ u a. on_one (f.fit u).spans (f.fit sort).spans j a on_b)
          (side_more ns cs S L k i _ _ _ _ master_a (fits_distinct f master_a) sort on_a (x.stands.rows.named master_a) in_a.0 in_a.1 (t.side master_a) x.first) x.second
      both master_b = side_more ns cs S L k j _ _ _ _ master_b (fits_distinct f master_b) sort on_b (x.stands.rows.named master_b) in_b.0 in_b.1
          (side_other ns cs S L k _ _ i _ _ _ _ master_b (λ u b. on_one (f.fit sort).spans (f.fit u).spans i on_a b) (t.side master_b) x.first) x.second
