-- The edit back passes its tests, and leads the nodes back.
use Rattle.std.specs.Prelude.{ℕ, ◌≤◌, ◌≡◌, true, false, cond, not, ◌&&◌, eqb, pos, nat_abs, length}
use Rattle.std.proofs.Math.Path.{refl, ap}
use Rattle.std.proofs.Common.{◌∙◌, arith}
use mathlib.Core.List.{List, [], Memᴰ}
use borrow.Author.Tests.{ne_eqb, le-leb}
use Rattle.matching.specs.Definitions.Lists.{Reordered, same}
use Rattle.matching.specs.declared.Master.{Master}
use Rattle.matching.specs.declared.Master.TheVariants.{A as master_a, B as master_b}
use Rattle.matching.specs.Definitions.Nodes.{each, Node, has}
use Rattle.matching.specs.Definitions.Edits.{arrive, depart, amend, moved, resized}
use Rattle.matching.proofs.Laws.Lists.{all_at}
use Rattle.matching.proofs.Laws.Undo.{absent_has, arrived, arrive-depart, departed_absent, departed_length, depart-arrive, amended_has, amend_back}
use Rattle.matching.proofs.Theorems.RowOrder.{join_reordered}
use Rattle.tables.specs.Definitions.Sizes.{number_size, capacity_size, farthest, most, most_sort, node_rows, edit_number}
use Rattle.tables.specs.Definitions.Fields.{nat_at, nat_bytes, position_at}
use Rattle.tables.specs.Definitions.Tables.{capacity_in, sort_in, field_of, node_from, node_bytes, position_good, capacity_good, GoodNode, GoodNodes}
use Rattle.tables.specs.Definitions.Edits.{kind_of, master_of, number_of, edit_node, positions_zero, positions_good, capacity_field, edit_fields, edit_nodes}
use Rattle.tables.specs.Laws.Fields.{nat_read, nat_high, field_capacity, field_sort, field_high}
use Rattle.tables.proofs.Laws.Tables.{node_read}
use Rattle.tables.proofs.Laws.Edits.{Passes, Kind, arrival, departure, move, capacity, kind_cases, is_known}
use Rattle.tables.proofs.Laws.Edited.{fresh}
use Rattle.contract.specs.Definitions.Buffers.{Drawing, drawing, Good, links, master_named, nodes_named}
use Rattle.contract.specs.Definitions.Requests.{redrawn}
use Rattle.contract.specs.Definitions.Undo.{edit_bytes, arrival_of, departure_of, move_of, resize_of, back}
use Rattle.contract.proofs.Laws.Drawing.{redrawn_good}

-- The edit of kind k for the master m that is made of a node w, whose capacity may be zero: its fields are those of w.
record Made (k m : ℕ) (w : Node) : Type 0 where
  node : edit_node (edit_bytes k m w) ≡ w
  number : number_of (edit_bytes k m w) ≡ w.number
  capacity : capacity_field (edit_bytes k m w) ≡ field_of w
  positions : positions_good (edit_bytes k m w) ≡ true
  low : 1 ≤ w.number

module _ (k m : ℕ) (w : Node) (g : GoodNode (resized 1 0 w)) (c : w.capacity ≤ most) (s : w.sort ≤ most_sort) where
  made_field : capacity_field (edit_bytes k m w) ≡ field_of w
  unfolding capacity_field node_bytes nat_at nat_bytes
  made_field = nat_read capacity_size (field_of w) [] (field_high w c s)

  made_node : edit_node (edit_bytes k m w) ≡ w
  unfolding edit_node node_from node_bytes nat_at nat_bytes position_at capacity_field
  made_node = λ i. record {
    number = (node_read (resized 1 0 w) [] g i).number;
    x = (node_read (resized 1 0 w) [] g i).x;
    y = (node_read (resized 1 0 w) [] g i).y;
    capacity = (ap capacity_in made_field ∙ field_capacity w c) i;
    sort = (ap sort_in made_field ∙ field_sort w c) i;
  }

  made : Made k m w
  unfolding number_of capacity_field positions_good position_good edit_node node_from
  made = record {
    node = made_node;
    number = ap (λ (v : Node). v.number) made_node;
    capacity = made_field;
    positions =
        ap (λ (v : Node). position_good v.x && position_good v.y) made_node
        ∙ rw (le-leb (nat_abs w.x) farthest g.across, le-leb (nat_abs w.y) farthest g.up);
    low = g.low;
  }

-- It passes where its fields keep the rules of its kind, and the number and the rows of the nodes X do.
made_passes : {k m : ℕ} {w : Node} → Made k m w → (X : List Node) → 1 ≤ k → k ≤ 4 → m ≤ 1 → edit_fields (edit_bytes k m w) ≡ true
    → cond (eqb k 1) (has w.number X) (not (has w.number X)) ≡ false → (eqb k 1 && eqb (length X) node_rows) ≡ false → Passes (edit_bytes k m w) X
unfolding node_bytes nat_bytes
made_passes t X h i j f n r = record {
  bytes = (omega arith, (omega arith, (omega arith, (omega arith, (omega arith, (omega arith, (omega arith, (omega arith, (omega arith, (omega arith, tt))))))))));
  size = refl;
  least = h;
  most = i;
  number = omega (arith, t.number, t.low);
  fields = f;
  known = rw t.number n;
  room = r;
}

capacity_good_lem : (v : Node) → GoodNode v → capacity_good (field_of v) ≡ true
unfolding capacity_good
capacity_good_lem v g =
    rw (field_capacity v g.most, field_sort v g.most, le-leb 1 v.capacity g.least, le-leb v.capacity most g.most, le-leb v.sort most_sort g.sort)

-- What the edit e' is for an edit e of the nodes A, which are then X.
pub record Back (e e' : List ℕ) (A X : List Node) : Type 0 where
  pub master : master_of e' ≡ master_of e
  pub passes : Passes e' X
  pub reordered : Reordered (edit_nodes e' X) A
  pub same : ¬ (kind_of e ≡ 2) → edit_nodes e' X ≡ A

-- An edit e that passes, of the number that v has.
module _ (e : List ℕ) (A : List Node) (g : GoodNodes A) (p : Passes e A) (m : master_of e ≤ 1) (v : Node) (n : v.number ≡ number_of e) where
  bare : GoodNode (resized 1 0 (moved (pos 0) (pos 0) v))
  unfolding number_of
  bare = record {
    low = omega (arith, n, p.number);
    high = omega (arith, n, nat_high number_size e p.bytes edit_number);
    across = omega arith;
    up = omega arith;
    least = omega arith;
    most = omega arith;
    sort = omega arith;
  }

  -- An arrival.
  back_arrival : kind_of e ≡ 1 → Back e (departure_of (master_of e) v) A (arrive (edit_node e) A)
  unfolding edit_nodes
  back_arrival k = record { master = refl; passes = passed; reordered = rw led same; same = λ h. led }
    where
      t : Made 2 (master_of e) (resized 0 0 (moved (pos 0) (pos 0) v))
      t = made 2 (master_of e) (resized 0 0 (moved (pos 0) (pos 0) v)) bare (omega arith) (omega arith)

      is : v.number ≡ (edit_node e).number
      is = unfold number_of edit_node node_from in n

      passed : Passes (departure_of (master_of e) v) (arrive (edit_node e) A)
      passed = made_passes t (arrive (edit_node e) A) (omega arith) (omega arith) m zeros (rw (is, arrived (edit_node e) A)) refl
        where
          zeros : edit_fields (departure_of (master_of e) v) ≡ true
          zeros = unfold edit_fields node_bytes nat_at nat_bytes in refl

      led : depart (number_of (departure_of (master_of e) v)) (arrive (edit_node e) A) ≡ A
      led = rw (t.number, is) (arrive-depart (edit_node e) A (unfold number_of edit_node node_from in fresh e A g p k))

  -- In the other kinds v is one of the nodes.
  module _ (i : Memᴰ v A) where
    good : GoodNode v
    good = all_at GoodNode g.good i

    fits : GoodNode (resized 1 0 v)
    fits = record { low = good.low; high = good.high; across = good.across; up = good.up; least = omega arith; most = omega arith; sort = omega arith }

    -- A departure.
    back_departure : kind_of e ≡ 2 → Back e (arrival_of (master_of e) v) A (depart (number_of e) A)
    unfolding edit_nodes
    back_departure k = rw (← n) (record { master = refl; passes = passed; reordered = rw t.node (depart-arrive v g.unique i); same = λ h. absurd (h k) })
      where
        t : Made 1 (master_of e) v
        t = made 1 (master_of e) v fits good.most good.sort

        passed : Passes (arrival_of (master_of e) v) (depart v.number A)
        passed = made_passes t (depart v.number A) (omega arith) (omega arith) m (unfold edit_fields in rw (t.positions, t.capacity, capacity_good_lem v good))
            (absent_has v.number (depart v.number A) (departed_absent v g.unique i))
            (ne_eqb (length (depart v.number A)) node_rows (λ f. omega (arith, g.room, departed_length v g.unique i)))

    -- Any amendment f: the edit made of w is the amendment h, which leads v back.
    module _ (f h : Node → Node) (keeps : (u : Node) → (f u).number ≡ u.number) (leads : h (f v) ≡ v) (z : ¬ (kind_of e ≡ 1)) where
      abbrev X : List Node
      X = amend f v.number A

      back_amended : {k : ℕ} {w : Node} → Made k (master_of e) w → 2 ≤ k → k ≤ 4 → w.number ≡ v.number → edit_fields (edit_bytes k (master_of e) w) ≡ true
          → edit_nodes (edit_bytes k (master_of e) w) X ≡ amend h (number_of (edit_bytes k (master_of e) w)) X → Back e (edit_bytes k (master_of e) w) A (amend f (number_of e) A)
      back_amended {k} {w} t low high is fields acts = rw (← n) (record { master = refl; passes = passed; reordered = rw led same; same = λ h. led })
        where
          there : has w.number X ≡ true
          there = rw is (amended_has f keeps v.number A ∙ rw n (is_known e A g p z))

          later : k ≡ 1 → ⊥
          later = omega arith

          passed : Passes (edit_bytes k (master_of e) w) X
          passed = made_passes t X (omega arith) high m fields (rw (ne_eqb k 1 later, there)) (rw (ne_eqb k 1 later))

          led : edit_nodes (edit_bytes k (master_of e) w) X ≡ A
          led = acts ∙ rw (t.number ∙ is) (amend_back f keeps h v leads g.unique i)

    back_move : kind_of e ≡ 3 → Back e (move_of (master_of e) v) A (amend (moved (edit_node e).x (edit_node e).y) (number_of e) A)
    unfolding edit_nodes
    back_move k = back_amended f (moved v.x v.y) (λ u. refl) refl (omega arith) t (omega arith) (omega arith) refl fields
        (ap (λ (u : Node). amend (moved u.x u.y) (number_of (edit_bytes 3 (master_of e) (resized 0 0 v))) (amend f v.number A)) t.node)
      where
        f : Node → Node
        f = moved (edit_node e).x (edit_node e).y

        t : Made 3 (master_of e) (resized 0 0 v)
        t = made 3 (master_of e) (resized 0 0 v) fits (omega arith) (omega arith)

        fields : edit_fields (edit_bytes 3 (master_of e) (resized 0 0 v)) ≡ true
        fields = unfold edit_fields in rw (t.positions, t.capacity)

    back_capacity : kind_of e ≡ 4 → Back e (resize_of (master_of e) v) A (amend (resized (edit_node e).capacity (edit_node e).sort) (number_of e) A)
    unfolding edit_nodes
    back_capacity k = back_amended f (resized v.capacity v.sort) (λ u. refl) refl (omega arith) t (omega arith) (omega arith) refl fields
        (ap (λ (u : Node). amend (resized u.capacity u.sort) (number_of (edit_bytes 4 (master_of e) (moved (pos 0) (pos 0) v))) (amend f v.number A)) t.node)
      where
        f : Node → Node
        f = resized (edit_node e).capacity (edit_node e).sort

        t : Made 4 (master_of e) (moved (pos 0) (pos 0) v)
        t = made 4 (master_of e) (moved (pos 0) (pos 0) v) bare good.most good.sort

        fields : edit_fields (edit_bytes 4 (master_of e) (moved (pos 0) (pos 0) v)) ≡ true
        fields = unfold edit_fields positions_zero node_bytes nat_at nat_bytes in rw (t.capacity, capacity_good_lem v good)

  back_kind : (¬ (kind_of e ≡ 1) → Memᴰ v A) → Kind e → Back e (back e v) A (edit_nodes e A)
  unfolding edit_nodes back
  back_kind i (arrival k) = rw k (back_arrival k)
  back_kind i (departure k) = rw k (back_departure (i (omega arith)) k)
  back_kind i (move k) = rw k (back_move (i (omega arith)) k)
  back_kind i (capacity k) = rw k (back_capacity (i (omega arith)) k)

  pub edit_back : (¬ (kind_of e ≡ 1) → Memᴰ v A) → Back e (back e v) A (edit_nodes e A)
  edit_back i = back_kind i (kind_cases e p.least p.most)

-- The nodes of each master after e, and after both edits.
module _ (e e' : List ℕ) (A B : List Node) where
  abbrev once : Master → Drawing
  once s = drawing (each (edit_nodes e A) A s) (each B (edit_nodes e B) s)

  abbrev twice : Master → Drawing
  twice s = drawing (each (edit_nodes e' (once s).a) (once s).a s) (each (once s).b (edit_nodes e' (once s).b) s)

  side_once : (s : Master) → each (once s).a (once s).b s ≡ edit_nodes e (each A B s)
  side_once master_a = refl
  side_once master_b = refl

  sides_back : (s : Master) → edit_nodes e' (edit_nodes e (each A B s)) ≡ each A B s → twice s ≡ drawing A B
  sides_back master_a h = ap (λ (X : List Node). drawing X B) h
  sides_back master_b h = ap (λ (X : List Node). drawing A X) h

  sides_reordered : (s : Master) → Reordered (edit_nodes e' (edit_nodes e (each A B s))) (each A B s)
      → (t : Master) → Reordered (each (twice s).a (twice s).b t) (each A B t)
  sides_reordered master_a h master_a = h
  sides_reordered master_a h master_b = same
  sides_reordered master_b h master_a = same
  sides_reordered master_b h master_b = h

-- On paper: the edit back passes, and leads the drawing back.
module _ (d : Drawing) (g : Good d) (e e' : List ℕ) (p : Passes e (nodes_named d (master_of e)))
    (b : Back e e' (nodes_named d (master_of e)) (edit_nodes e (nodes_named d (master_of e)))) where
  pub passes_back : Passes e' (nodes_named (redrawn e d) (master_of e'))
  unfolding redrawn
  passes_back = rw (b.master, side_once e e' d.a d.b (master_named (master_of e))) b.passes

  pub redrawn_back : ¬ (kind_of e ≡ 2) → redrawn e' (redrawn e d) ≡ d
  unfolding redrawn
  redrawn_back h = rw b.master (sides_back e e' d.a d.b (master_named (master_of e)) (b.same h))

  pub links_back : links (redrawn e' (redrawn e d)) ≡ links d
  links_back = join_reordered (rows master_a) (rows master_b) (all_good master_a).unique (all_good master_b).unique
    where
      all_good : Good (redrawn e' (redrawn e d))
      all_good = redrawn_good (redrawn e d) (redrawn_good d g e p) e' passes_back

      rows : (s : Master) → Reordered (each (redrawn e' (redrawn e d)).a (redrawn e' (redrawn e d)).b s) (each d.a d.b s)
      rows s = unfold redrawn in rw b.master (sides_reordered e e' d.a d.b (master_named (master_of e)) b.reordered s)
