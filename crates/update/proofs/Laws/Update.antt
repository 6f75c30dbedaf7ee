-- The set after the rows of the edited master were brought in line. Assumes nothing.
use Prim.Native.Nat.{ℕ, zero, suc, ◌+◌, ◌-◌, ◌≤◌, ◌<◌}
use mathlib.Core.Path.{◌≡◌, refl, sym, ◌∙◌, ap, subst}
use mathlib.Core.List.{List}
use native.Mathlib.Omega.{arith}
use borrow.Author.Tests.{eq-eqb, ne_eqb}
use lib.IntN.{ℤ}
use lib.ListN.{length}
use Rattle.matching.specs.declared.Range.{Range}
use Rattle.matching.specs.declared.Spans.{Spans}
use Rattle.matching.specs.Definitions.Rows.{Sorts, range, size, spans_of, On, Spanned, node_in, nodes_on}
use Rattle.matching.specs.Definitions.Lists.{Reordered}
use Rattle.matching.specs.declared.Master.{Master}
use Rattle.matching.specs.declared.Master.TheVariants.{A as master_a, B as master_b}
use Rattle.matching.specs.Definitions.Nodes.{other, each, of_sort}
use Rattle.matching.specs.Definitions.Columns.{tabulate}
use Rattle.matching.specs.Definitions.Sizes.{half, node_rows, set_rows}
use Rattle.matching.proofs.Laws.Columns.{tabulate-length, tabulate_cong}
use Rattle.matching.proofs.Laws.Reordered.{reordered_length}
use Rattle.tables.specs.Definitions.Sizes.{table_size}
use Rattle.tables.specs.Definitions.Tables.{nodes_in}
use Rattle.tables.specs.Definitions.Edits.{master_of, number_of}
use Rattle.stability.specs.Barred.{Patched, fresh, moved, barred_patched}
use Rattle.load.specs.Load.{Rows, rows_of, InSet}
use Rattle.load.specs.Laws.Parts.{part_length}
use Rattle.load.specs.Laws.Loaded.{rows_in}
use Rattle.load.specs.Laws.Represents.{rows_represent}
use Rattle.update.specs.Rows.{nodes_between, Outdated, Same, Current, OutdatedBoth, CurrentBoth}
use Rattle.update.specs.Update.{named, Edited, Updated}
use Rattle.update.proofs.Laws.Written.{same_node, same_patched, same_then, patched_same, same_patches}

-- One sort and then the other: rows of one are not touched by the other.
module _ {t : List ℕ} {z : ℕ} {m : Rows} {ns : List ℕ} {at : List (List ℤ)} {cs L : List ℕ} (o : OutdatedBoth t z m ns at cs L) where
  on : Outdated t z 0 m.on ns at cs L
  on = o.rows 0 (omega arith)

  off : Outdated t z 1 m.off ns at cs L
  off = o.rows 1 (omega arith)

  module _ {p : ℕ} {ns' : List ℕ} {at' : List (List ℤ)} {cs' L' : List ℕ} (u : Current t 0 m.on ns at cs L p ns' at' cs' L') where
    behind : (k : ℕ) → m.off.from ≤ k → Same k ns at cs L ns' at' cs' L'
    behind k h = u.others k (λ l g. omega (arith, o.ahead))

    pub still_outdated : Outdated t z 1 m.off ns' at' cs' L'
    still_outdated = record {
      size = off.size;
      unique = off.unique;
      columns = u.columns;
      limits = u.limits;
      order = off.order;
      room = off.room;
      edited = rw (tabulate_cong (node_in 1 ns' at' cs') (node_in 1 ns at cs) m.off.from (size m.off) (λ k h g. same_node (behind k h) 1)) off.edited;
    }

    module _ {q : ℕ} {ns'' : List ℕ} {at'' : List (List ℤ)} {cs'' L'' : List ℕ} (w : Current t 1 m.off ns' at' cs' L' q ns'' at'' cs'' L'') where
      abbrev r : Rows
      r = record { on = record { from = m.on.from; to = p }; off = record { from = m.off.from; to = q } }

      ahead : (k : ℕ) → k < p → Same k ns' at' cs' L' ns'' at'' cs'' L''
      ahead k h = w.others k (λ l g. omega (arith, o.ahead, u.near))

      pub current_both : CurrentBoth t m ns at cs L r ns'' at'' cs'' L''
      current_both = record {
        columns = w.columns;
        limits = w.limits;
        first = first;
        order = order;
        near = near;
        nodes = nodes;
        others = λ k h. same_then (u.others k (λ l g. h l (omega (arith, o.ahead, off.order)))) (w.others k (λ l g. h (omega (arith, o.ahead, on.order)) g));
        patched = patched;
      }
        where
          first : (s : ℕ) → (rows_of r s).from ≡ (rows_of m s).from
          first zero = refl
          first (suc s) = refl

          order : (s : ℕ) → (rows_of m s).from ≤ (rows_of r s).to
          order zero = u.order
          order (suc s) = w.order

          near : (s : ℕ) → (rows_of r s).to ≤ (rows_of m s).to + 1
          near zero = u.near
          near (suc s) = w.near

          nodes : (s : ℕ) → s ≤ 1 → Reordered (of_sort s (nodes_in t)) (nodes_between s (rows_of r s).from (rows_of r s).to ns'' at'' cs'')
          nodes zero l = rw (tabulate_cong (node_in 0 ns'' at'' cs'') (node_in 0 ns' at' cs') m.on.from (p - m.on.from)
              (λ k h g. same_node (ahead k (omega (arith, u.order))) 0)) u.nodes
          nodes (suc zero) l = w.nodes
          nodes (suc (suc s)) l = absurd (omega arith)

          patched : (s : ℕ) → s ≤ 1 → (S : Sorts) (n : Master) → range (spans_of S s) n ≡ rows_of m s → (k : ℕ) → (rows_of m s).from ≤ k → k < (rows_of r s).to → Patched ns at S L ns'' at'' L'' s n k
          patched zero l S n e k h g = patched_same (u.patched S n e k h g) (ahead k g)
          patched (suc zero) l S n e k h g = same_patches (λ j a. behind j (omega (arith, a.0, ap (λ (x : Range). x.from) e))) (w.patched S n e k h g)
          patched (suc (suc s)) l S n e k h g = absurd (omega arith)

-- Both masters are one of them and the other.
both : (P : Master → Type 0) (m : Master) → P m → P (other m) → (n : Master) → P n
both P master_a x y master_a = x
both P master_a x y master_b = y
both P master_b x y master_a = y
both P master_b x y master_b = x

other_not : (m : Master) → other m ≡ m → ⊥
other_not master_a h = let z : ◌≡◌ {A = ℕ} 0 1 = cc in omega arith
other_not master_b h = let z : ◌≡◌ {A = ℕ} 0 1 = cc in omega arith

-- The rows of a master in place of those of a set.
abbrev pub in_place : Sorts → Master → Rows → Sorts
in_place S master_a r = record { on = record { a = r.on; b = S.on.b }; off = record { a = r.off; b = S.off.b } }
in_place S master_b r = record { on = record { a = S.on.a; b = r.on }; off = record { a = S.off.a; b = r.off } }

module _ (S : Sorts) (r : Rows) where
  own_range : (m : Master) (u : ℕ) → range (spans_of (in_place S m r) u) m ≡ rows_of r u
  own_range master_a zero = refl
  own_range master_a (suc u) = refl
  own_range master_b zero = refl
  own_range master_b (suc u) = refl

  other-range : (m : Master) (u : ℕ) → range (spans_of (in_place S m r) u) (other m) ≡ range (spans_of S u) (other m)
  other-range master_a zero = refl
  other-range master_a (suc u) = refl
  other-range master_b zero = refl
  other-range master_b (suc u) = refl

rows_range : (S : Sorts) (m : Master) (u : ℕ) → rows_of (rows_in S m) u ≡ range (spans_of S u) m
rows_range S m zero = refl
rows_range S m (suc u) = refl

-- Other rows for a master.
module _ {s : Spans} (h : Spanned s) {p : Range} where
  spanned_a : p.from ≡ s.a.from → p.from ≤ p.to → p.to ≤ p.from + node_rows → p.to ≤ half → Spanned (record { a = p; b = s.b })
  spanned_a e l m b = record {
    order_a = l;
    order_b = h.order_b;
    most_a = m;
    most_b = h.most_b;
    below = b;
    above = h.above;
    end = h.end;
    block_a = rw e h.block_a;
    block_b = h.block_b;
  }

  spanned_b : p.from ≡ s.b.from → p.from ≤ p.to → p.to ≤ p.from + node_rows → p.to ≤ set_rows → Spanned (record { a = s.a; b = p })
  spanned_b e l m b = record {
    order_a = h.order_a;
    order_b = l;
    most_a = h.most_a;
    most_b = m;
    below = h.below;
    above = omega (arith, h.above);
    end = b;
    block_a = h.block_a;
    block_b = rw e h.block_b;
  }

-- Rows that are the nodes of a sort are as many.
rows_count : (t : List ℕ) (u : ℕ) (r : Range) (ns : List ℕ) (at : List (List ℤ)) (cs : List ℕ) → r.from ≤ r.to
    → Reordered (of_sort u (nodes_in t)) (tabulate (node_in u ns at cs) r.from (size r)) → r.to ≡ r.from + length (of_sort u (nodes_in t))
rows_count t u r ns at cs l h = omega (arith, reordered_length h, tabulate-length (node_in u ns at cs) r.from (size r))

module _ {a b e ns : List ℕ} {at : List (List ℤ)} {cs : List ℕ} {S : Sorts} {L : List ℕ} (o : Edited a b e ns at cs S L) where
  -- Which master the edit names.
  pub names_a : master_of e ≡ 0 → named e ≡ master_a
  names_a h = rw (eq-eqb (master_of e) 0 h)

  pub names_b : (master_of e ≡ 0 → ⊥) → named e ≡ master_b
  names_b h = rw (ne_eqb (master_of e) 0 h)

  sizes : (m : Master) → length (each a b m) ≡ table_size
  sizes master_a = o.size_a
  sizes master_b = o.size_b

  orders : (u : ℕ) (m : Master) → (range (spans_of S u) m).from ≤ (range (spans_of S u) m).to
  orders u master_a = (o.fits.fit u).spans.order_a
  orders u master_b = (o.fits.fit u).spans.order_b

  ends : (m : Master) → (range S.off m).to < set_rows
  ends master_a = omega (arith, o.free.off master_a)
  ends master_b = o.free.off master_b

  rooms : (u : ℕ) (m : Master) → (range (spans_of S u) m).to < set_rows
  rooms zero m = omega (arith, o.free.on m, orders 1 m, ends m)
  rooms (suc u) m = ends m

  -- The edited master's rows before,
  pub outdated : (m : Master) → named e ≡ m → (z : ℕ) → z ≡ number_of e → OutdatedBoth (each a b m) z (rows_in S m) ns at cs L
  unfolding nodes_on
  outdated m is z n = record {
    ahead = o.free.on m;
    rows = λ u l. rw (rows_range S m u) (record {
      size = sizes m;
      unique = (o.good m).unique;
      columns = record { numbers = (o.fits.fit u).numbers; positions = (o.fits.fit u).positions; capacities = (o.fits.fit u).capacities };
      limits = o.barred.room;
      order = orders u m;
      room = rooms u m;
      edited = rw (n, ← is) (o.edited u l);
    });
  }

  -- and after.
  module _ (m : Master) (is : named e ≡ m) {r : Rows} {ns' : List ℕ} {at' : List (List ℤ)} {cs' L' : List ℕ}
      (c : CurrentBoth (each a b m) (rows_in S m) ns at cs L r ns' at' cs' L') where
    abbrev S' : Sorts
    S' = in_place S m r

    own_count : (u : ℕ) → u ≤ 1 → (rows_of r u).to ≡ (rows_of r u).from + length (of_sort u (nodes_in (each a b m)))
    own_count u l = rows_count (each a b m) u (rows_of r u) ns' at' cs' (omega (arith, c.first u, c.order u)) (c.nodes u l)

    own_most : (u : ℕ) → u ≤ 1 → (rows_of r u).to ≤ (rows_of r u).from + node_rows
    own_most u l = omega (arith, own_count u l, part_length u (nodes_in (each a b m)), (o.good m).room)

    own_order : (u : ℕ) → (rows_of r u).from ≤ (rows_of r u).to
    own_order u = omega (arith, c.first u, c.order u)

    -- the other master's rows
    apart : (m : Master) (u k : ℕ) → On (spans_of S u) (other m) k → (range S.on m).from ≤ k → k ≤ (range S.off m).to → ⊥
    apart master_a u k h l g = omega (arith, o.free.off master_a, (o.fits.fit u).spans.above)
    apart master_b u k h l g = omega (arith, (o.fits.fit u).spans.below, (o.fits.fit 0).spans.above)

    unchanged : (u k : ℕ) → On (spans_of S u) (other m) k → Same k ns at cs L ns' at' cs' L'
    unchanged u k h = c.others k (apart m u k h)

    other_nodes : (u : ℕ) → u ≤ 1 → Reordered (of_sort u (nodes_in (each a b (other m)))) (tabulate (node_in u ns' at' cs') (range (spans_of S u) (other m)).from (size (range (spans_of S u) (other m))))
    unfolding nodes_on
    other_nodes u l =
        let p : Range = range (spans_of S u) (other m) in
        rw (tabulate_cong (node_in u ns' at' cs') (node_in u ns at cs) p.from (size p) (λ k h g. same_node (unchanged u k (h, omega arith)) u))
        (o.other u l (other m) (λ h. other_not m (h ∙ is)))

    spans : (m : Master) (r : Rows) → ((u : ℕ) → (rows_of r u).from ≡ (range (spans_of S u) m).from) → ((u : ℕ) → (rows_of r u).from ≤ (rows_of r u).to)
        → ((u : ℕ) → u ≤ 1 → (rows_of r u).to ≤ (rows_of r u).from + node_rows) → ((u : ℕ) → (rows_of r u).to ≤ each half set_rows m) → (u : ℕ) → Spanned (spans_of (in_place S m r) u)
    spans master_a r f l n h zero = spanned_a (o.fits.fit 0).spans (f 0) (l 0) (n 0 (omega arith)) (h 0)
    spans master_a r f l n h (suc u) = spanned_a (o.fits.fit 1).spans (f 1) (l 1) (n 1 (omega arith)) (h 1)
    spans master_b r f l n h zero = spanned_b (o.fits.fit 0).spans (f 0) (l 0) (n 0 (omega arith)) (h 0)
    spans master_b r f l n h (suc u) = spanned_b (o.fits.fit 1).spans (f 1) (l 1) (n 1 (omega arith)) (h 1)

    within : (u : ℕ) → (rows_of r u).to ≤ each half set_rows m
    within zero = omega (arith, c.near 0, o.free.on m, orders 1 m, o.free.off m)
    within (suc u) = omega (arith, c.near 1, o.free.off m)

    in_set : InSet a b ns' at' cs' S'
    unfolding nodes_on
    in_set = record {
      columns = c.columns;
      spans = spans m r (λ u. c.first u ∙ ap (λ (x : Range). x.from) (rows_range S m u)) own_order own_most within;
      ahead = both (λ n. (range S'.on n).to ≤ (range S'.off n).from) m
          (omega (arith, c.near 0, o.free.on m, c.first 1, ap (λ (x : Range). x.to) (own_range S r m 0), ap (λ (x : Range). x.from) (own_range S r m 1)))
          (rw (other-range S r m 0, other-range S r m 1) (o.fits.ahead (other m)));
      count = λ u l. both (λ n. (range (spans_of S' u) n).to ≡ (range (spans_of S' u) n).from + length (of_sort u (nodes_in (each a b n)))) m
          (rw (own_range S r m u) (own_count u l))
          (rw (other-range S r m u) (rows_count (each a b (other m)) u (range (spans_of S u) (other m)) ns' at' cs' (orders u (other m)) (other_nodes u l)));
      nodes = λ u l. both (λ n. Reordered (of_sort u (nodes_in (each a b n))) (tabulate (node_in u ns' at' cs') (range (spans_of S' u) n).from (size (range (spans_of S' u) n)))) m
          (rw (own_range S r m u) (c.nodes u l))
          (rw (other-range S r m u) (other_nodes u l));
    }

    patches : (u : ℕ) (n : Master) (k : ℕ) → On (spans_of S' u) n k → Patched ns at S L ns' at' L' u n k
    patches u n = both (λ n. (k : ℕ) → On (spans_of S' u) n k → Patched ns at S L ns' at' L' u n k) m (own u)
        (λ k h. let g = subst (λ (x : Range). (x.from ≤ k) × (k < x.to)) (other-range S r m u) h in same_patched (unchanged u k g) g) n
      where
        again : (u k : ℕ) → Patched ns at S L ns' at' L' 1 m k → Patched ns at S L ns' at' L' (suc u) m k
        again u k (fresh e) = fresh e
        again u k (moved h o n p l) = moved h o n p l

        sort : (u : ℕ) → u ≤ 1 → (k : ℕ) → On (spans_of S' u) m k → Patched ns at S L ns' at' L' u m k
        sort u l k h =
            let g = subst (λ (x : Range). (x.from ≤ k) × (k < x.to)) (own_range S r m u) h in
            c.patched u l S m (sym (rows_range S m u)) k (omega (arith, g.0, c.first u)) g.1

        own : (u : ℕ) (k : ℕ) → On (spans_of S' u) m k → Patched ns at S L ns' at' L' u m k
        own zero k h = sort 0 (omega arith) k h
        own (suc u) k h = again u k (sort 1 (omega arith) k (rw (own_range S r m 1) (rw (own_range S r m (suc u)) at h)))

    pub updated : Updated a b ns' at' cs' S' L'
    updated = record { rows = rows_represent in_set o.good; barred = barred_patched o.barred c.limits patches }
