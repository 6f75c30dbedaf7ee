-- Nodes stored row by row are the table's nodes.
use Rattle.std.specs.Prelude.{ℕ, suc, ◌+◌, ◌*◌, ◌-◌, ◌<◌, ◌≤◌, ◌≡◌, cond, ℤ, eqb, get_or}
use Rattle.std.proofs.Math.Path.{refl, ap, subst}
use Rattle.std.proofs.Common.{sym, ◌∙◌, ap₂, length-set, length-append, get_or-set_same, get_or-set_other, eq-eqb, ne_eqb}
use mathlib.Core.List.{List, [], ◌∷◌, ◌++◌, append_assoc, append-nil}
use native.Mathlib.Omega.{arith}
use Rattle.std.proofs.Math.ListN.{length}
use Rattle.matching.specs.declared.Range.{Range}
use Rattle.matching.specs.Definitions.Lists.{Reordered, same, then}
use Rattle.matching.specs.Definitions.Nodes.{Node, of_sort}
use Rattle.matching.specs.Definitions.Columns.{tabulate}
use Rattle.matching.specs.Definitions.Sizes.{node_rows, set_rows}
use Rattle.matching.specs.Definitions.Rows.{across, upward, node_in}
use Rattle.matching.proofs.Laws.Columns.{tabulate-length, tabulate_cong, tabulate_snoc}
use Rattle.tables.specs.Definitions.Sizes.{node_size}
use Rattle.tables.specs.Definitions.Tables.{node_from, row_number, nodes_from, nodes_in}
use Rattle.tables.proofs.Laws.Accepted.{room}
use Rattle.tables.specs.Laws.Nodes.{nodes_end, nodes_next, nodes_full}
use Rattle.packing.specs.Packed.{Same, Packable, Packed}
use Rattle.load.specs.Load.{Columns, Written, Stored, Advanced, alike, other, Decoded}
use Rattle.load.specs.Laws.Parts.{part_length}

-- A row that is as it was denotes the same node.
pub same_node : {k : ℕ} {ns : List ℕ} {at : List (List ℤ)} {cs ns' : List ℕ} {at' : List (List ℤ)} {cs' : List ℕ} → Same k ns at cs ns' at' cs'
    → (u : ℕ) → node_in u ns' at' cs' k ≡ node_in u ns at cs k
same_node s u = λ t. record { number = s.number t; x = across (s.position t); y = upward (s.position t); capacity = s.capacity t; sort = u }

-- A row stays as it was twice.
pub same_then : {k : ℕ} {ns : List ℕ} {at : List (List ℤ)} {cs ns' : List ℕ} {at' : List (List ℤ)} {cs' ns'' : List ℕ} {at'' : List (List ℤ)} {cs'' : List ℕ}
    → Same k ns at cs ns' at' cs' → Same k ns' at' cs' ns'' at'' cs'' → Same k ns at cs ns'' at'' cs''
same_then p q = record { number = q.number ∙ p.number; position = q.position ∙ p.position; capacity = q.capacity ∙ p.capacity }

module _ {i n : ℕ} {p : List ℤ} {c : ℕ} {ns : List ℕ} {at : List (List ℤ)} {cs ns' : List ℕ} {at' : List (List ℤ)} {cs' : List ℕ}
    (w : Written i n p c ns at cs ns' at' cs') where
  pub written_columns : Columns ns at cs → Columns ns' at' cs'
  written_columns s = record {
    numbers = ap length w.number ∙ length-set ns i n ∙ s.numbers;
    positions = ap length w.position ∙ length-set at i p ∙ s.positions;
    capacities = ap length w.capacity ∙ length-set cs i c ∙ s.capacities;
  }

  -- The row denotes what is written,
  pub written_node : (u : ℕ) → Columns ns at cs → i < set_rows → node_in u ns' at' cs' i ≡ record { number = n; x = across p; y = upward p; capacity = c; sort = u }
  written_node u s h =
      let q : get_or at' i [] ≡ p = ap (λ (l : List (List ℤ)). get_or l i []) w.position ∙ get_or-set_same at i p [] (omega (arith, s.positions)) in
      λ t. record {
        number = (ap (λ (l : List ℕ). get_or l i 0) w.number ∙ get_or-set_same ns i n 0 (omega (arith, s.numbers))) t;
        x = across (q t);
        y = upward (q t);
        capacity = (ap (λ (l : List ℕ). get_or l i 0) w.capacity ∙ get_or-set_same cs i c 0 (omega (arith, s.capacities))) t;
        sort = u;
      }

  -- and the others are as they were.
  pub written_apart : (k : ℕ) → (k ≡ i → ⊥) → Same k ns at cs ns' at' cs'
  written_apart k h = record {
    number = ap (λ (l : List ℕ). get_or l k 0) w.number ∙ get_or-set_other ns i k n 0 h;
    position = ap (λ (l : List (List ℤ)). get_or l k []) w.position ∙ get_or-set_other at i k p [] h;
    capacity = ap (λ (l : List ℕ). get_or l k 0) w.capacity ∙ get_or-set_other cs i k c 0 h;
  }

-- A node of the sort u that is stored is the row's.
pub stored_node : {u : ℕ} {v : Node} {i : ℕ} {ns : List ℕ} {at : List (List ℤ)} {cs ns' : List ℕ} {at' : List (List ℤ)} {cs' : List ℕ}
    → Stored v i ns at cs ns' at' cs' → v.sort ≡ u → Columns ns at cs → i < set_rows → node_in u ns' at' cs' i ≡ v
stored_node {u} {v} s e c h =
    written_node s u c h ∙ (λ t. record { number = v.number; x = v.x; y = v.y; capacity = v.capacity; sort = sym e t })

-- The nodes stored so far, ahead of row i, and those of the sort from the table's row k on.
pub record Progress (t : List ℕ) (u from i k : ℕ) (ns : List ℕ) (at : List (List ℤ)) (cs ns' : List ℕ) (at' : List (List ℤ)) (cs' : List ℕ) : Type 0 where
  pub columns : Columns ns' at' cs'
  pub most : k ≤ node_rows
  pub order : from ≤ i
  pub nodes : of_sort u (nodes_in t) ≡ tabulate (node_in u ns' at' cs') from (i - from) ++ of_sort u (nodes_from t k (node_rows - k))
  pub apart : (j : ℕ) → (from ≤ j → j ≤ i → ⊥) → Same j ns at cs ns' at' cs'

module _ {t : List ℕ} {u from : ℕ} {ns : List ℕ} {at : List (List ℤ)} {cs : List ℕ} where
  pub progress_start : Columns ns at cs → Progress t u from from 0 ns at cs ns at cs
  unfolding nodes_in tabulate
  progress_start c =
      let none : 0 ≡ from - from = omega arith in
      record {
        columns = c;
        most = omega arith;
        order = omega arith;
        nodes = ap (λ (k : ℕ). tabulate (node_in u ns at cs) from k ++ of_sort u (nodes_from t 0 node_rows)) none;
        apart = λ j h. record { number = refl; position = refl; capacity = refl };
      }

  module _ {i k : ℕ} {ns' : List ℕ} {at' : List (List ℤ)} {cs' : List ℕ} (p : Progress t u from i k ns at cs ns' at' cs') where
    abbrev rows : List Node
    rows = tabulate (node_in u ns' at' cs') from (i - from)

    -- There is room for what is to come.
    pub progress_room : from + length (of_sort u (nodes_in t)) < set_rows → i < set_rows
    progress_room h = omega (
      arith,
      p.order,
      ap length p.nodes ∙ length-append rows (of_sort u (nodes_from t k (node_rows - k))),
      tabulate-length (node_in u ns' at' cs') from (i - from),
    )

    ended : nodes_from t k (node_rows - k) ≡ [] → Decoded t u from i ns at cs ns' at' cs'
    unfolding of_sort
    ended e =
        let all : of_sort u (nodes_in t) ≡ rows = p.nodes ∙ ap (λ (A : List Node). rows ++ of_sort u A) e ∙ append-nil rows in
        record {
          columns = p.columns;
          count = omega (arith, p.order, ap length all ∙ tabulate-length (node_in u ns' at' cs') from (i - from));
          nodes = subst (λ (A : List Node). Reordered (of_sort u (nodes_in t)) A) all same;
          apart = p.apart;
        }

    pub progress_end : k < node_rows → row_number t k ≡ 0 → Decoded t u from i ns at cs ns' at' cs'
    progress_end h e = ended (nodes_end t k h e)

    pub progress_full : node_rows ≤ k → Decoded t u from i ns at cs ns' at' cs'
    progress_full h = ended (nodes_full t k h)

    -- One row of the table more.
    abbrev v : Node
    v = node_from t (node_size * k)

    abbrev later : List Node
    later = of_sort u (nodes_from t (k + 1) (node_rows - (k + 1)))

    module _ (room : i < set_rows) (h : k < node_rows) (e : row_number t k ≡ 0 → ⊥) where
      next : of_sort u (nodes_from t k (node_rows - k)) ≡ cond (eqb v.sort u) (v ∷ later) later
      unfolding of_sort
      next = ap (of_sort u) (nodes_next t k h e)

      module _ {ns'' : List ℕ} {at'' : List (List ℤ)} {cs'' : List ℕ} (s : Stored v i ns' at' cs' ns'' at'' cs'') where
        kept : rows ≡ tabulate (node_in u ns'' at'' cs'') from (i - from)
        kept = tabulate_cong (node_in u ns' at' cs') (node_in u ns'' at'' cs'') from (i - from) (λ j a b. sym (same_node (written_apart s j (λ z. omega arith)) u))

        more : v.sort ≡ u → rows ++ (v ∷ []) ≡ tabulate (node_in u ns'' at'' cs'') from (i + 1 - from)
        more d =
            let size : suc (i - from) ≡ i + 1 - from = omega (arith, p.order) in
            let last : i ≡ from + (i - from) = omega (arith, p.order) in
            ap (λ (A : List Node). A ++ (v ∷ [])) kept
            ∙ ap (λ (w : Node). tabulate (node_in u ns'' at'' cs'') from (i - from) ++ (w ∷ []))
            (sym (stored_node s d p.columns room) ∙ ap (node_in u ns'' at'' cs'') last)
            ∙ sym (tabulate_snoc (node_in u ns'' at'' cs'') from (i - from))
            ∙ ap (tabulate (node_in u ns'' at'' cs'') from) size

        others : (j : ℕ) → (from ≤ j → j ≤ i → ⊥) → Same j ns at cs ns'' at'' cs''
        others j g = same_then (p.apart j g) (written_apart s j (λ z. g (omega (arith, p.order)) (omega arith)))

        pub progress_more : {r : ℕ} → Advanced i v.sort u r → Progress t u from r (k + 1) ns at cs ns'' at'' cs''
        progress_more (other d f) = rw f (record {
          columns = written_columns s p.columns;
          most = omega arith;
          order = p.order;
          nodes = p.nodes ∙ ap₂ (λ (A B : List Node). A ++ B) kept (next ∙ rw (ne_eqb v.sort u d));
          apart = others;
        })
        progress_more (alike d f) = rw f (record {
          columns = written_columns s p.columns;
          most = omega arith;
          order = omega (arith, p.order);
          nodes = p.nodes
              ∙ ap (λ (A : List Node). rows ++ A) (next ∙ rw (eq-eqb v.sort u d))
              ∙ sym (append_assoc rows (v ∷ []) later)
              ∙ ap (λ (A : List Node). A ++ later) (more d);
          apart = λ j g. others j (λ a b. g a (omega arith));
        })

-- What is decoded can be put in order,
pub decoded_packable : {t : List ℕ} {u : ℕ} {r : Range} {ns : List ℕ} {at : List (List ℤ)} {cs ns' : List ℕ} {at' : List (List ℤ)} {cs' : List ℕ}
    → r.from + length (of_sort u (nodes_in t)) < set_rows → Decoded t u r.from r.to ns at cs ns' at' cs' → Packable r ns' at' cs'
decoded_packable {t} {u} h d = record {
  order = omega (arith, d.count);
  most = omega (arith, d.count, part_length u (nodes_in t), room t);
  end = omega (arith, d.count);
  numbers = d.columns.numbers;
  positions = d.columns.positions;
  capacities = d.columns.capacities;
}

-- and is decoded then.
pub decoded_packed : {t : List ℕ} {u : ℕ} {r : Range} {ns : List ℕ} {at : List (List ℤ)} {cs ns' : List ℕ} {at' : List (List ℤ)} {cs' : List ℕ}
    {ns'' : List ℕ} {at'' : List (List ℤ)} {cs'' : List ℕ}
    → Decoded t u r.from r.to ns at cs ns' at' cs' → Packed r ns' at' cs' ns'' at'' cs'' → Decoded t u r.from r.to ns at cs ns'' at'' cs''
decoded_packed {u = u} d p = record {
  columns = record {
    numbers = p.numbers ∙ d.columns.numbers;
    positions = p.positions ∙ d.columns.positions;
    capacities = p.capacities ∙ d.columns.capacities;
  };
  count = d.count;
  nodes = then d.nodes (p.nodes u);
  apart = λ k h. same_then (d.apart k h) (p.apart k (λ a b. h a (omega arith)));
}

-- A sort that no node is of needs no row.
pub decoded_none : {t : List ℕ} {u start : ℕ} {ns : List ℕ} {at : List (List ℤ)} {cs : List ℕ} → Columns ns at cs → length (of_sort u (nodes_in t)) ≡ 0
    → Decoded t u start start ns at cs ns at cs
unfolding tabulate
decoded_none {t} {u} {start} {ns} {at} {cs} c e =
    let none : 0 ≡ start - start = omega arith in
    record {
      columns = c;
      count = omega arith;
      nodes = subst (λ (k : ℕ). Reordered (of_sort u (nodes_in t)) (tabulate (node_in u ns at cs) start k)) none (empty (of_sort u (nodes_in t)) e);
      apart = λ k h. record { number = refl; position = refl; capacity = refl };
    }
  where
    empty : (A : List Node) → length A ≡ 0 → Reordered A []
    empty [] d = same
    empty (v ∷ A) d = absurd (omega arith)
