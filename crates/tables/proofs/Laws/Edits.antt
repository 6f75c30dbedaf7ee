-- An edit of the table is the edit of its nodes.
use Prim.Native.Nat.{ℕ, suc, ◌+◌, ◌*◌, ◌-◌, ◌≤◌}
use Rattle.std.specs.Prelude.{◌≡◌, true, false, cond, not, ◌&&◌, eqb, take, drop}
use Rattle.std.proofs.Math.Path.{sym, ap}
use Rattle.std.proofs.Common.{◌∙◌, ap₂, length-append, length-drop, drop_of_length-le, drop-drop, ne_eqb}
use mathlib.Core.List.{List, [], ◌∷◌, ◌++◌, append_assoc, append-nil}
use Rattle.std.proofs.Math.Decide.{ℕ_discrete}
use native.Mathlib.Omega.{arith}
use Rattle.std.proofs.Math.ListN.{length}
use Rattle.std.proofs.lemmas.List.{replicate-append-replicate}
use Rattle.std.proofs.Math.Seq.{drop-append-add, take-append_seam}
use Rattle.std.proofs.lemmas.Bool.{not-false}
use Rattle.matching.specs.Definitions.Nodes.{Node, has, place}
use Rattle.matching.specs.Definitions.Edits.{arrive, depart, amend, moved, resized}
use Rattle.matching.proofs.Laws.Split.{Split, split}
use Rattle.tables.specs.Definitions.Sizes.{position_size, node_x, node_capacity, node_size, node_rows, table_size, edit_number, edit_x, edit_capacity, edit_size}
use Rattle.tables.specs.Definitions.Fields.{Bytes, nat_bytes}
use Rattle.tables.specs.Definitions.Rows.{flat, padded, put}
use Rattle.tables.specs.Definitions.Tables.{node_from, node_bytes, table_bytes, GoodNodes}
use Rattle.tables.specs.Definitions.Edits.{kind_of, number_of, edit_node, edit_fields, edit_nodes, closed, edit_table}
use Rattle.tables.specs.Laws.Fields.{bytes_drop}
use Rattle.tables.specs.Laws.Rows.{zeros, drop-zeros, flat_append, put_after}
use Rattle.tables.proofs.Laws.Tables.{node_drop, node_length, row_node, nodes_length, table_nodes}

-- How a table lies.
table_form : (A : List Node) → table_bytes A ≡ flat node_bytes A ++ zeros (table_size - node_size * length A)
unfolding table_bytes padded
table_form A = ap (λ (m : ℕ). flat node_bytes A ++ zeros (table_size - m)) (nodes_length A)

table_split : (A₁ A₂ : List Node) → table_bytes (A₁ ++ A₂) ≡ flat node_bytes A₁ ++ (flat node_bytes A₂ ++ zeros (table_size - node_size * (length A₁ + length A₂)))
table_split A₁ A₂ = table_form (A₁ ++ A₂) ∙ rw (flat_append node_bytes A₁ A₂, length-append A₁ A₂) (append_assoc (flat node_bytes A₁) (flat node_bytes A₂) (zeros (table_size - node_size * (length A₁ + length A₂))))

-- What is put behind the first rows.
put_behind : (A : List Node) (Q vs : List ℕ) (i : ℕ) → put (flat node_bytes A ++ Q) (node_size * length A + i) vs ≡ flat node_bytes A ++ put Q i vs
put_behind A Q vs i = rw (← nodes_length A) (put_after (flat node_bytes A) Q vs i)

-- What follows an edit's kind and master is a node's row.
edit_row : (e : List ℕ) → Bytes e → length e ≡ edit_size → drop edit_number e ≡ node_bytes (edit_node e)
unfolding edit_node
edit_row e b l =
    sym (row_node (drop edit_number e) (bytes_drop edit_number e b) (simp length-drop (omega arith)))
    ∙ ap₂ (λ (v : Node) (r : List ℕ). node_bytes v ++ r) (sym (node_drop e edit_number)) (let h : length (drop edit_number e) ≤ node_size = simp length-drop (omega arith) in drop_of_length-le (drop edit_number e) h)
    ∙ append-nil (node_bytes (node_from e edit_number))

-- Arrival, departure, move and new capacity.
put_front : (v : Node) (m : ℕ) → put (zeros m) 0 (node_bytes v) ≡ flat node_bytes (v ∷ []) ++ zeros (m - node_size)
unfolding put flat
put_front v m = rw (node_length v, append-nil (node_bytes v)) (ap (λ (r : List ℕ). node_bytes v ++ r) (drop-zeros node_size m))

arriving : (A : List Node) (v : Node) → put (table_bytes A) (node_size * length A) (node_bytes v) ≡ table_bytes (arrive v A)
arriving A v =
    ap₂ (λ (t : List ℕ) (i : ℕ). put t i (node_bytes v)) (table_form A) front
    ∙ put_behind A (zeros (table_size - node_size * length A)) (node_bytes v) 0
    ∙ ap (λ (r : List ℕ). flat node_bytes A ++ r) (put_front v (table_size - node_size * length A) ∙ ap (λ (m : ℕ). flat node_bytes (v ∷ []) ++ zeros m) less)
    ∙ sym (table_split A (v ∷ []))
  where
    front : node_size * length A ≡ node_size * length A + 0
    front = omega arith

    less : table_size - node_size * length A - node_size ≡ table_size - node_size * (length A + 1)
    less = omega arith

-- The table of a list with the node v after A₁: from v's row on.
module _ (A₁ A₂ : List Node) where
  from_row : Node → List ℕ
  from_row v = node_bytes v ++ (flat node_bytes A₂ ++ zeros (table_size - node_size * (length A₁ + suc (length A₂))))

  table_row : (v : Node) → table_bytes (A₁ ++ v ∷ A₂) ≡ flat node_bytes A₁ ++ from_row v
  unfolding flat from_row
  table_row v = table_split A₁ (v ∷ A₂) ∙ ap (λ (r : List ℕ). flat node_bytes A₁ ++ r) (append_assoc (node_bytes v) (flat node_bytes A₂) (zeros (table_size - node_size * (length A₁ + suc (length A₂)))))

  leave : (v : Node) → length A₁ + suc (length A₂) ≤ node_rows → closed (table_bytes (A₁ ++ v ∷ A₂)) (length A₁) ≡ table_bytes (A₁ ++ A₂)
  unfolding closed from_row node_bytes nat_bytes
  leave v h = rw (table_row v, table_split A₁ A₂, rows, ← nodes_length A₁, take-append_seam (flat node_bytes A₁) (from_row v), drop-append-add (flat node_bytes A₁) (from_row v) node_size)
      (ap (λ (r : List ℕ). flat node_bytes A₁ ++ r) (append_assoc (flat node_bytes A₂) (zeros (table_size - node_size * (length A₁ + suc (length A₂)))) (zeros node_size)
      ∙ ap (λ (r : List ℕ). flat node_bytes A₂ ++ r) (replicate-append-replicate (table_size - node_size * (length A₁ + suc (length A₂))) node_size 0 ∙ ap zeros more)))
    where
      rows : node_size * suc (length A₁) ≡ node_size * length A₁ + node_size
      rows = omega arith

      more : table_size - node_size * (length A₁ + suc (length A₂)) + node_size ≡ table_size - node_size * (length A₁ + length A₂)
      more = omega arith

  reposition : (v w : Node) → put (table_bytes (A₁ ++ v ∷ A₂)) (node_size * length A₁ + node_x) (take (position_size + position_size) (drop node_x (node_bytes w))) ≡ table_bytes (A₁ ++ moved w.x w.y v ∷ A₂)
  unfolding put from_row node_bytes nat_bytes
  reposition v w = rw (table_row v) (put_behind A₁ (from_row v) (take (position_size + position_size) (drop node_x (node_bytes w))) node_x ∙ sym (table_row (moved w.x w.y v)))

  resize : (v w : Node) → put (table_bytes (A₁ ++ v ∷ A₂)) (node_size * length A₁ + node_capacity) (drop node_capacity (node_bytes w)) ≡ table_bytes (A₁ ++ resized w.capacity w.sort v ∷ A₂)
  unfolding put from_row node_bytes nat_bytes
  resize v w = rw (table_row v) (put_behind A₁ (from_row v) (drop node_capacity (node_bytes w)) node_capacity ∙ sym (table_row (resized w.capacity w.sort v)))

-- What an edit is that is not refused, for the nodes A of its master.
pub record Passes (e : List ℕ) (A : List Node) : Type 0 where
  pub bytes : Bytes e
  pub size : length e ≡ edit_size
  pub least : 1 ≤ kind_of e
  pub most : kind_of e ≤ 4
  pub number : 1 ≤ number_of e
  pub fields : edit_fields e ≡ true
  pub known : cond (eqb (kind_of e) 1) (has (number_of e) A) (not (has (number_of e) A)) ≡ false
  pub room : (eqb (kind_of e) 1 && eqb (length A) node_rows) ≡ false

pub data Kind (e : List ℕ) : Type 0 where
  arrival : kind_of e ≡ 1 → Kind e
  departure : kind_of e ≡ 2 → Kind e
  move : kind_of e ≡ 3 → Kind e
  capacity : kind_of e ≡ 4 → Kind e

pub kind_cases : (e : List ℕ) → 1 ≤ kind_of e → kind_of e ≤ 4 → Kind e
kind_cases e h g = go (ℕ_discrete (kind_of e) 1) (ℕ_discrete (kind_of e) 2) (ℕ_discrete (kind_of e) 3)
  where
    go : Dec (kind_of e ≡ 1) → Dec (kind_of e ≡ 2) → Dec (kind_of e ≡ 3) → Kind e
    go (yes d) s t = arrival d
    go (no d) (yes s) t = departure s
    go (no d) (no s) (yes t) = move t
    go (no d) (no s) (no t) = capacity (omega arith)

module _ (e : List ℕ) (A : List Node) (m : GoodNodes A) (p : Passes e A) where
  -- the number is known in all kinds but an arrival
  pub is_known : (kind_of e ≡ 1 → ⊥) → has (number_of e) A ≡ true
  is_known h = not-false (has (number_of e) A) (rw (ne_eqb (kind_of e) 1 h) at p.known)

  is_there : (kind_of e ≡ 1 → ⊥) → Split (number_of e) A
  is_there h = split (number_of e) A (is_known h)

  row : drop edit_number e ≡ node_bytes (edit_node e)
  row = edit_row e p.bytes p.size

  -- the fields of the edit are those of the row
  later : (i : ℕ) → drop (edit_number + i) e ≡ drop i (node_bytes (edit_node e))
  later i = sym (drop-drop i edit_number e) ∙ ap (drop i) row

  room_at : (s : Split (number_of e) A) → length s.A₁ + suc (length s.A₂) ≤ node_rows
  room_at s = omega (arith, m.room, ap length s.is_list, length-append s.A₁ (s.v ∷ s.A₂))

  leaving : Split (number_of e) A → closed (table_bytes A) (place (number_of e) A) ≡ table_bytes (depart (number_of e) A)
  leaving s = rw (s.is_place, s.departed, s.is_list) (leave s.A₁ s.A₂ s.v (room_at s))

  moving : Split (number_of e) A → put (table_bytes A) (node_size * place (number_of e) A + node_x) (take (position_size + position_size) (drop edit_x e)) ≡ table_bytes (amend (moved (edit_node e).x (edit_node e).y) (number_of e) A)
  moving s = rw (later node_x, s.is_place, s.amended (moved (edit_node e).x (edit_node e).y), s.is_list) (reposition s.A₁ s.A₂ s.v (edit_node e))

  sizing : Split (number_of e) A → put (table_bytes A) (node_size * place (number_of e) A + node_capacity) (drop edit_capacity e) ≡ table_bytes (amend (resized (edit_node e).capacity (edit_node e).sort) (number_of e) A)
  sizing s = rw (later node_capacity, s.is_place, s.amended (resized (edit_node e).capacity (edit_node e).sort), s.is_list) (resize s.A₁ s.A₂ s.v (edit_node e))

  edit_kinds : Kind e → edit_table e (table_bytes A) ≡ table_bytes (edit_nodes e A)
  unfolding edit_table edit_nodes
  edit_kinds (arrival k) = rw (table_nodes A m, k, row) (arriving A (edit_node e))
  edit_kinds (departure k) = rw (table_nodes A m, k) (leaving (is_there (omega arith)))
  edit_kinds (move k) = rw (table_nodes A m, k) (moving (is_there (omega arith)))
  edit_kinds (capacity k) = rw (table_nodes A m, k) (sizing (is_there (omega arith)))

  -- In the table as on the nodes.
  pub edit_table_lem : edit_table e (table_bytes A) ≡ table_bytes (edit_nodes e A)
  edit_table_lem = edit_kinds (kind_cases e p.least p.most)
