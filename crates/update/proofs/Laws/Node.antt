-- The rows of a sort after one of its nodes was written, added or taken out. Assumes nothing.
use Prim.Native.Nat.{ℕ, ◌+◌, ◌-◌, ◌*◌, ◌≤◌, ◌<◌}
use mathlib.Core.Path.{◌≡◌, refl, sym, ◌∙◌, ap, subst}
use mathlib.Core.List.{List, [], ◌∷◌, ◌++◌, Memᴰ}
use Rattle.std.specs.Prelude.{Some, None}
use native.Mathlib.Decide.{ℕ_discrete}
use native.Mathlib.Nat.{zero-add}
use native.Mathlib.Omega.{arith}
use lib.IntN.{ℤ}
use lib.ListN.{length, get_or, set, length-set, length-append}
use lib.Seq.{get_or_at}
use Rattle.matching.specs.declared.Range.{Range}
use Rattle.matching.specs.Definitions.Rows.{Sorts, range, spans_of, node_in}
use Rattle.matching.specs.Definitions.Lists.{All, Reordered}
use Rattle.matching.specs.declared.Master.{Master}
use Rattle.matching.specs.Definitions.Nodes.{Node, Unique, has, of_sort}
use Rattle.matching.specs.Definitions.Edits.{depart}
use Rattle.matching.specs.Definitions.Columns.{tabulate}
use Rattle.matching.specs.Definitions.Sizes.{node_rows, set_rows}
use Rattle.matching.proofs.Laws.Lists.{all_map, all_in, all_at}
use Rattle.matching.proofs.Laws.Sorts.{all_of_sort, in_sort, of_sort_lem}
use Rattle.matching.proofs.Laws.Amounts.{same_node}
use Rattle.matching.proofs.Laws.Parts.{has_node}
use Rattle.matching.proofs.Laws.Split.{Split, split}
use Rattle.tables.specs.Definitions.Sizes.{node_size}
use Rattle.tables.specs.Definitions.Tables.{node_from, nodes_in}
use Rattle.tables.proofs.Laws.Edited.{has_none}
use Rattle.tables.specs.Laws.Find.{RowOf}
use Rattle.tables.specs.Laws.Nodes.{rows_at}
use Rattle.stability.specs.Barred.{Patched, fresh, moved}
use Rattle.load.specs.Load.{Written, Stored}
use Rattle.load.specs.Laws.Decode.{written_columns, written_node, stored_node}
use Rattle.update.specs.Rows.{nodes_between, First, NodeRow, RowIn, Outdated, Same, Current}
use Rattle.update.specs.Departures.{depart_absent}
use Rattle.update.proofs.Laws.Lists.{put_first, in_middle, depart_none, one_written, one_more, one_less}
use Rattle.update.proofs.Laws.Written.{at_written, written_same, same_node as same_row, same_patched, on_range}

-- A row of the table, and its sort: the nodes of a sort are the node with the number z and the others, or none has that number.
module _ (t : List ℕ) (z u : ℕ) where
  abbrev A : List Node
  A = of_sort u (nodes_in t)

  missing : All (λ w. z ≡ w.number → ⊥) A → RowIn t z u None
  missing n = depart_absent z A n

  pub sort_none : RowOf t z None → RowIn t z u None
  sort_none o = missing (all_of_sort (λ w. z ≡ w.number → ⊥) u (nodes_in t) (all_map (λ w f s. f) (nodes_in t) (has_none z (nodes_in t) o.known)))

  module _ (k : ℕ) (o : RowOf t z (Some k)) (unique : Unique (nodes_in t)) where
    abbrev v : Node
    v = node_from t (node_size * k)

    at_row : Memᴰ v (nodes_in t) × (v.number ≡ z)
    unfolding nodes_in
    at_row = go (split z (nodes_in t) o.known)
      where
        go : Split z (nodes_in t) → Memᴰ v (nodes_in t) × (v.number ≡ z)
        go s =
            let p : length s.A₁ ≡ k = sym (o.is ∙ s.is_place) in
            let l : k < length (nodes_in t) = omega (arith, p, ap length s.is_list, length-append s.A₁ (s.v ∷ s.A₂)) in
            let e : s.v ≡ v =
            sym (ap (λ (B : List Node). get_or B k s.v) s.is_list ∙ get_or_at s.A₁ s.v s.A₂ s.v k p)
            ∙ (rows_at t s.v node_rows 0 k l).node ∙ ap (λ (j : ℕ). node_from t (node_size * j)) (zero-add k) in (
              subst (λ (w : Node). Memᴰ w (nodes_in t)) e (subst (λ (B : List Node). Memᴰ s.v B) (sym s.is_list) (in_middle s.A₁ s.v s.A₂)),
              ap (λ (w : Node). w.number) (sym e) ∙ s.is_number,
            )

    no_other : All (λ w. w.number ≡ z → w ≡ v) (nodes_in t)
    no_other = all_in (nodes_in t) (λ w i e. same_node i at_row.0 unique (e ∙ sym at_row.1))

    pub sort_found : v.sort ≡ u → RowIn t z u (Some k)
    sort_found e = record {
      within = o.within;
      sort = e;
      first = go (split z A (ap (λ (n : ℕ). has n A) (sym at_row.1) ∙ has_node (in_sort at_row.0 e)));
    }
      where
        go : Split z A → Reordered A (v ∷ depart z A)
        go s =
            let m : Memᴰ s.v A = subst (λ (B : List Node). Memᴰ s.v B) (sym s.is_list) (in_middle s.A₁ s.v s.A₂) in
            let d : s.v ≡ v = all_at (λ w. w.number ≡ z → w ≡ v) no_other (of_sort_lem (nodes_in t) m).0 s.is_number in
            rw (s.departed, ← d) (subst (λ (B : List Node). Reordered B (s.v ∷ (s.A₁ ++ s.A₂))) (sym s.is_list) (put_first s.A₁ s.v s.A₂))

    pub sort_other : (v.sort ≡ u → ⊥) → RowIn t z u None
    sort_other e = missing (all_of_sort (λ w. z ≡ w.number → ⊥) u (nodes_in t)
        (all_map (λ w f s d. e (ap (λ (w : Node). w.sort) (sym (f (sym d))) ∙ s)) (nodes_in t) no_other))

module _ {t : List ℕ} {z u : ℕ} {r : Range} {ns : List ℕ} {at : List (List ℤ)} {cs L : List ℕ} (o : Outdated t z u r ns at cs L)
    {row : ℕ} (f : First r ns z row) where
  abbrev size : ℕ
  size = r.to - r.from

  abbrev node : ℕ → Node
  node = node_in u ns at cs

  -- There is room for the row.
  pub row_room : row < set_rows
  row_room = omega (arith, f.high, o.room)

  -- The table has the node.
  module _ {k : ℕ} {ns' : List ℕ} {at' : List (List ℤ)} {cs' L' : List ℕ} (q : NodeRow t z u k)
      (w : Stored (node_from t (node_size * k)) row ns at cs ns' at' cs') (e : L' ≡ set L row 0) where
    abbrev node' : ℕ → Node
    node' = node_in u ns' at' cs'

    others : (j : ℕ) → (j ≡ row → ⊥) → Same j ns at cs L ns' at' cs' L'
    others = written_same w L 0 e

    keeps : (j : ℕ) → (j ≡ row → ⊥) → node' j ≡ node j
    keeps j d = same_row (others j d) u

    first : Reordered (of_sort u (nodes_in t)) (node' row ∷ depart z (of_sort u (nodes_in t)))
    first = rw (stored_node w q.sort o.columns row_room) q.first

    current : (end : ℕ) → r.from ≤ end → end ≤ r.to + 1 → ((j : ℕ) → j < end → (j ≡ row → ⊥) → j < r.to)
        → Reordered (of_sort u (nodes_in t)) (nodes_between u r.from end ns' at' cs') → Current t u r ns at cs L end ns' at' cs' L'
    current end l m old nodes = record {
      columns = written_columns w o.columns;
      limits = ap length e ∙ length-set L row 0 ∙ o.limits;
      order = l;
      near = m;
      nodes = nodes;
      others = λ j d. others j (λ x. d (omega (arith, f.low)) (omega (arith, f.high)));
      patched = λ S p i j a b. patch S p i j a b (ℕ_discrete j row);
    }
      where
        patch : (S : Sorts) (p : Master) → range (spans_of S u) p ≡ r → (j : ℕ) → r.from ≤ j → j < end → Dec (j ≡ row) → Patched ns at S L ns' at' L' u p j
        patch S p i j a b (yes x) = fresh (rw x (at_written L row 0 0 e (omega (arith, o.limits, row_room))))
        patch S p i j a b (no x) = same_patched (others j x) (on_range (spans_of S u) p i j a (old j b x))

    pub node_written : row < r.to → Current t u r ns at cs L r.to ns' at' cs' L'
    node_written l =
        current r.to o.order (omega arith) (λ j a b. a)
        (one_written node node' r.from row f.low keeps z size (omega arith) f.before (f.is l) first o.edited)

    pub node_added : r.to ≤ row → Current t u r ns at cs L (row + 1) ns' at' cs' L'
    node_added l =
        let n : size + 1 ≡ row + 1 - r.from = omega (arith, o.order, f.high) in
        current (row + 1) (omega (arith, f.low)) (omega (arith, f.high)) (λ j a b. omega (arith, f.high))
        (subst (λ (i : ℕ). Reordered (of_sort u (nodes_in t)) (tabulate node' r.from i)) n
        (one_more node node' r.from row f.low keeps z size (omega (arith, o.order, f.high)) f.before first o.edited))

  -- The table has no such node: the last row fills its row,
  module _ (last : ℕ) {ns' : List ℕ} {at' : List (List ℤ)} {cs' L' : List ℕ} (q : RowIn t z u None) (l : row < r.to) (d : r.to ≡ last + 1)
      (w : Written row (get_or ns last 0) (get_or at last []) (get_or cs last 0) ns at cs ns' at' cs') (e : L' ≡ set L row (get_or L last 0)) where
    abbrev new : ℕ → Node
    new = node_in u ns' at' cs'

    rest : (j : ℕ) → (j ≡ row → ⊥) → Same j ns at cs L ns' at' cs' L'
    rest = written_same w L (get_or L last 0) e

    pub node_removed : Current t u r ns at cs L last ns' at' cs' L'
    node_removed =
        let n : r.to - r.from ≡ last - r.from + 1 = omega (arith, f.low) in
        let b : r.from + (last - r.from) ≡ last = omega (arith, f.low) in
        record {
          columns = written_columns w o.columns;
          limits = ap length e ∙ length-set L row (get_or L last 0) ∙ o.limits;
          order = omega (arith, f.low);
          near = omega arith;
          nodes =
              one_less node new r.from row f.low (λ j x. same_row (rest j x) u) z (last - r.from) (omega (arith, f.low)) f.before (f.is l)
              (written_node w u o.columns row_room ∙ ap node (sym b)) q (rw n at o.edited);
          others = λ j x. rest j (λ y. x (omega (arith, f.low)) (omega arith));
          patched = λ S p i j a c. patch S p i j a c (ℕ_discrete j row);
        }
      where
        patch : (S : Sorts) (p : Master) → range (spans_of S u) p ≡ r → (j : ℕ) → r.from ≤ j → j < last → Dec (j ≡ row) → Patched ns at S L ns' at' L' u p j
        patch S p i j a c (yes x) = moved last (on_range (spans_of S u) p i last (omega arith) (omega arith))
            (rw x (sym (at_written ns row (get_or ns last 0) 0 w.number (omega (arith, o.columns.numbers, row_room)))))
            (rw x (sym (at_written at row (get_or at last []) [] w.position (omega (arith, o.columns.positions, row_room)))))
            (rw x (sym (at_written L row (get_or L last 0) 0 e (omega (arith, o.limits, row_room)))))
        patch S p i j a c (no x) = same_patched (rest j x) (on_range (spans_of S u) p i j a (omega arith))

  -- or there is nothing to do.
  pub node_missing : RowIn t z u None → r.to ≤ row → Current t u r ns at cs L row ns at cs L
  node_missing q l =
      let b : row ≡ r.to = omega (arith, f.high) in
      record {
        columns = o.columns;
        limits = o.limits;
        order = f.low;
        near = omega arith;
        nodes = rw b (rw (q, depart_none node r.from z row f.low f.before size (omega (arith, o.order))) at o.edited);
        others = λ j x. unchanged j;
        patched = λ S p i j a c. same_patched (unchanged j) (on_range (spans_of S u) p i j a (omega arith));
      }
    where
      unchanged : (j : ℕ) → Same j ns at cs L ns at cs L
      unchanged j = record { number = refl; position = refl; capacity = refl; limit = refl }
