-- Tables in the set: what their rows denote.
use Rattle.std.specs.Prelude.{ℕ, zero, suc, ◌+◌, ◌-◌, ◌≤◌, ◌<◌, ◌≡◌, refl, List, ◌++◌, ℤ, length}
use Rattle.std.proofs.Common.{sym, subst, arith}
use Rattle.matching.specs.declared.Range.{Range}
use Rattle.matching.specs.Definitions.Rows.{Sorts, range, size, spans_of, Spanned, node_in, nodes_on}
use Rattle.matching.specs.Definitions.Lists.{All, Reordered, then}
use Rattle.matching.specs.declared.Master.{Master}
use Rattle.matching.specs.declared.Master.TheVariants.{A as master_a, B as master_b}
use Rattle.matching.specs.Definitions.Nodes.{each, Node, of_sort}
use Rattle.matching.specs.Definitions.Columns.{tabulate}
use Rattle.matching.specs.Definitions.Sizes.{node_rows, half, set_rows}
use Rattle.matching.proofs.Laws.Columns.{tabulate_all, tabulate_cong}
use Rattle.matching.proofs.Laws.Sets.{tabulate_unique}
use Rattle.matching.proofs.Laws.Both.{unique_append}
use Rattle.matching.proofs.Laws.Reordered.{reordered_back}
use Rattle.matching.proofs.Theorems.RowOrder.{reordered_unique}
use Rattle.tables.specs.Definitions.Tables.{nodes_in}
use Rattle.tables.proofs.Laws.Accepted.{room as few}
use Rattle.load.specs.Load.{Rows, Columns, Decoded, rows_of, Whole, Loaded, NextBlock}
use Rattle.load.specs.Index.{Named, on_curve, off_curve}
use Rattle.load.specs.Laws.Parts.{reordered_append, parts, parts_length, part_length}
use Rattle.load.specs.Laws.Decode.{same_node, same_then}

-- There is room for each sort.
pub first_room : (from : ℕ) (t : List ℕ) → from + half ≤ set_rows → from + length (of_sort 0 (nodes_in t)) < set_rows
first_room from t h = omega (arith, part_length 0 (nodes_in t), few t)

pub second_room : {t : List ℕ} {from e r : ℕ} {ns : List ℕ} {at : List (List ℤ)} {cs ns' : List ℕ} {at' : List (List ℤ)} {cs' : List ℕ}
    → {p : ℕ} → from + half ≤ set_rows → p ≡ from → Decoded t 0 p e ns at cs ns' at' cs' → NextBlock e r → r + length (of_sort 1 (nodes_in t)) < set_rows
second_room {t} h q d b = omega (arith, d.count, b.near, parts_length (nodes_in t), few t)

-- One sort and then the other, in a block of its own: the second leaves the rows of the first as they are.
pub whole : {t : List ℕ} {from start : ℕ} {p q : Range} {ns : List ℕ} {at : List (List ℤ)} {cs ns' : List ℕ} {at' : List (List ℤ)} {cs' : List ℕ}
    {ns'' : List ℕ} {at'' : List (List ℤ)} {cs'' : List ℕ}
    → p.from ≡ from → Decoded t 0 p.from p.to ns at cs ns' at' cs' → NextBlock p.to start → q.from ≡ start → Decoded t 1 q.from q.to ns' at' cs' ns'' at'' cs''
    → Whole t from (record { on = p; off = q }) ns at cs ns'' at'' cs''
whole {t} {from} {p = p} {q = q} {ns' = ns'} {at' = at'} {cs' = cs'} {ns'' = ns''} {at'' = at''} {cs'' = cs''} e d b₀ f g = record {
  columns = g.columns;
  first = e;
  next = b;
  end = omega (arith, e, d.count, g.count, b.near, parts_length (nodes_in t), few t);
  count = count;
  nodes = nodes;
  apart = λ k h. same_then
      (d.apart k (λ l z. h (omega (arith, e)) (omega (arith, e, d.count, part_length 0 (nodes_in t), few t))))
      (g.apart k (λ l z. h (omega (arith, e, b.past, d.count)) (omega (arith, e, d.count, g.count, b.near, parts_length (nodes_in t), few t))));
}
  where
    r : Rows
    r = record { on = p; off = q }

    b : NextBlock p.to q.from
    b = rw f b₀

    count : (u : ℕ) → u ≤ 1 → (rows_of r u).to ≡ (rows_of r u).from + length (of_sort u (nodes_in t))
    count zero l = d.count
    count (suc zero) l = g.count
    count (suc (suc u)) l = absurd (omega arith)

    nodes : (u : ℕ) → u ≤ 1 → Reordered (of_sort u (nodes_in t)) (tabulate (node_in u ns'' at'' cs'') (rows_of r u).from ((rows_of r u).to - (rows_of r u).from))
    nodes zero l = subst (λ (A : List Node). Reordered (of_sort 0 (nodes_in t)) A)
        (tabulate_cong (node_in 0 ns' at' cs') (node_in 0 ns'' at'' cs'') p.from (p.to - p.from)
        (λ k a z. sym (same_node (g.apart k (λ x y. omega (arith, b.past, d.count))) 0))) d.nodes
    nodes (suc zero) l = g.nodes
    nodes (suc (suc u)) l = absurd (omega arith)

-- One table below half and one from there on: the second leaves the rows of the first as they are.
pub loaded : {a b : List ℕ} {p q : Rows} {ns : List ℕ} {at : List (List ℤ)} {cs ns' : List ℕ} {at' : List (List ℤ)} {cs' : List ℕ}
    {ns'' : List ℕ} {at'' : List (List ℤ)} {cs'' : List ℕ}
    → Whole a 0 p ns at cs ns' at' cs' → Whole b half q ns' at' cs' ns'' at'' cs''
    → Loaded a b ns'' at'' cs'' (record { on = record { a = p.on; b = q.on }; off = record { a = p.off; b = q.off } })
unfolding nodes_on
loaded {a} {b} {p} {q} {ns' = ns'} {at' = at'} {cs' = cs'} {ns'' = ns''} {at'' = at''} {cs'' = cs''} v w = record {
  rows = record { columns = w.columns; spans = spans; ahead = λ m. omega (arith, ahead m); count = count; nodes = nodes };
  free = record { on = ahead; off = end };
}
  where
    S : Sorts
    S = record { on = record { a = p.on; b = q.on }; off = record { a = p.off; b = q.off } }

    one : 1 ≤ 1
    one = omega arith

    none : 0 ≤ 1
    none = omega arith

    most : (t : List ℕ) (u : ℕ) → length (of_sort u (nodes_in t)) ≤ node_rows
    most t u = omega (arith, part_length u (nodes_in t), few t)

    ahead : (m : Master) → (range S.on m).to < (range S.off m).from
    ahead master_a = v.next.past
    ahead master_b = w.next.past

    end : (m : Master) → (range S.off m).to < each half set_rows m
    end master_a = omega (arith, v.end)
    end master_b = omega (arith, w.end)

    spans : (u : ℕ) → Spanned (spans_of S u)
    spans zero = record {
      order_a = omega (arith, v.count 0 none);
      order_b = omega (arith, w.count 0 none);
      most_a = omega (arith, v.count 0 none, most a 0);
      most_b = omega (arith, w.count 0 none, most b 0);
      below = omega (arith, v.next.past, v.count 1 one, v.end);
      above = omega (arith, w.first);
      end = omega (arith, w.next.past, w.count 1 one, w.end);
      block_a = rw v.first refl;
      block_b = rw w.first refl;
    }
    spans (suc u) = record {
      order_a = omega (arith, v.count 1 one);
      order_b = omega (arith, w.count 1 one);
      most_a = omega (arith, v.count 1 one, most a 1);
      most_b = omega (arith, w.count 1 one, most b 1);
      below = omega (arith, v.end);
      above = omega (arith, w.first, w.count 0 none, w.next.past);
      end = omega (arith, w.end);
      block_a = v.next.block;
      block_b = w.next.block;
    }

    count : (u : ℕ) → u ≤ 1 → (m : Master) → (range (spans_of S u) m).to ≡ (range (spans_of S u) m).from + length (of_sort u (nodes_in (each a b m)))
    count zero l master_a = v.count 0 l
    count zero l master_b = w.count 0 l
    count (suc zero) l master_a = v.count 1 l
    count (suc zero) l master_b = w.count 1 l
    count (suc (suc u)) l m = absurd (omega arith)

    kept : (u : ℕ) → u ≤ 1 → tabulate (node_in u ns' at' cs') (rows_of p u).from (size (rows_of p u)) ≡ tabulate (node_in u ns'' at'' cs'') (rows_of p u).from (size (rows_of p u))
    kept u l = tabulate_cong (node_in u ns' at' cs') (node_in u ns'' at'' cs'') (rows_of p u).from (size (rows_of p u)) (λ k x y. sym (same_node (w.apart k (λ g z. low u l k y g)) u))
      where
        low : (u : ℕ) → u ≤ 1 → (k : ℕ) → k < (rows_of p u).from + size (rows_of p u) → half ≤ k → ⊥
        low zero l k y g = omega (arith, v.count 0 l, v.next.past, v.count 1 one, v.end)
        low (suc zero) l k y g = omega (arith, v.count 1 l, v.end)
        low (suc (suc u)) l k y g = omega arith

    first : (u : ℕ) → u ≤ 1 → Reordered (of_sort u (nodes_in a)) (tabulate (node_in u ns'' at'' cs'') (rows_of p u).from (size (rows_of p u)))
    first u l = subst (λ (A : List Node). Reordered (of_sort u (nodes_in a)) A) (kept u l) (v.nodes u l)

    nodes : (u : ℕ) → u ≤ 1 → (m : Master) → Reordered (of_sort u (nodes_in (each a b m))) (nodes_on u (spans_of S u) ns'' at'' cs'' m)
    nodes zero l master_a = first 0 l
    nodes zero l master_b = w.nodes 0 l
    nodes (suc zero) l master_a = first 1 l
    nodes (suc zero) l master_b = w.nodes 1 l
    nodes (suc (suc u)) l m = absurd (omega arith)

-- A master's rows in the set.
abbrev pub rows_in : Sorts → Master → Rows
rows_in S m = record { on = range S.on m; off = range S.off m }

-- Rows of a table's nodes by sort.
module _ (t ns : List ℕ) (at : List (List ℤ)) (cs : List ℕ) (r : Rows)
    (columns : Columns ns at cs) (end_on : r.on.to ≤ set_rows) (end_off : r.off.to ≤ set_rows) (ahead : r.on.to ≤ r.off.from)
    (count : (u : ℕ) → u ≤ 1 → (rows_of r u).to ≡ (rows_of r u).from + length (of_sort u (nodes_in t)))
    (nodes : (u : ℕ) → u ≤ 1 → Reordered (of_sort u (nodes_in t)) (tabulate (node_in u ns at cs) (rows_of r u).from (size (rows_of r u)))) where
  abbrev part : ℕ → List Node
  part u = tabulate (node_in u ns at cs) (rows_of r u).from (size (rows_of r u))

  on_count : r.on.to ≡ r.on.from + length (of_sort 0 (nodes_in t))
  on_count = count 0 (omega arith)

  off_count : r.off.to ≡ r.off.from + length (of_sort 1 (nodes_in t))
  off_count = count 1 (omega arith)

  -- All of them, where each is of a sort.
  pub all_parts : All (λ v. v.sort ≤ 1) (nodes_in t) → Reordered (nodes_in t) (part 0 ++ part 1)
  all_parts h = then (parts (nodes_in t) h) (reordered_append (nodes 0 (omega arith)) (nodes 1 (omega arith)))

  -- They have the table's numbers.
  pub rows_named : Named t r ns
  rows_named = record {
    room = columns.numbers;
    order_on = omega (arith, on_count);
    order_off = omega (arith, off_count);
    end_on = end_on;
    end_off = end_off;
    count = omega (arith, on_count, off_count, parts_length (nodes_in t));
    unique = λ h d. reordered_unique (reordered_back (all_parts h)) (unique_append (part 0) (part 1)
        (tabulate_unique (node_in 0 ns at cs) r.on.from (size r.on) (λ i k a b c e. d i k (on_curve a (omega (arith, on_count))) (on_curve c (omega (arith, on_count)))))
        (tabulate_unique (node_in 1 ns at cs) r.off.from (size r.off) (λ i k a b c e. d i k (off_curve a (omega (arith, off_count))) (off_curve c (omega (arith, off_count)))))
        (tabulate_all _ (node_in 0 ns at cs) r.on.from (size r.on) (λ i a b. tabulate_all _ (node_in 1 ns at cs) r.off.from (size r.off) (λ k c e n.
        omega (arith, ahead, on_count, d i k (on_curve a (omega (arith, on_count))) (off_curve c (omega (arith, off_count))) n)))));
  }

-- So do those of a table alone.
pub whole_named : {t : List ℕ} {r : Rows} {ns : List ℕ} {at : List (List ℤ)} {cs ns' : List ℕ} {at' : List (List ℤ)} {cs' : List ℕ}
    → Whole t 0 r ns at cs ns' at' cs' → Named t r ns'
whole_named {t} {r} {ns' = ns'} {at' = at'} {cs' = cs'} w = rows_named t ns' at' cs' r w.columns (omega (arith, w.next.past, w.count 1 (omega arith), w.end)) (omega (arith, w.end)) (omega (arith, w.next.past)) w.count w.nodes
