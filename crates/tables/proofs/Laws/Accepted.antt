-- What an accepted table says of its rows: it is the table of its nodes, and they are good.
use Prim.Native.Nat.{ℕ, zero, suc, ◌+◌, ◌*◌, ◌-◌, ◌<◌, ◌≤◌}
use Rattle.std.specs.Prelude.{◌≡◌, refl, Bool, true, cond, not, ◌&&◌, ◌||◌, None, leb, eqb, nat_abs, take, drop}
use Rattle.std.proofs.Math.Path.{sym, ap, ap₂}
use Rattle.std.proofs.Common.{◌∙◌, zero-add, take-append-drop, length-drop, drop_of_length-le}
use Rattle.std.proofs.Math.Bool.{false}
use mathlib.Core.List.{List, [], ◌∷◌, ◌++◌}
use Rattle.std.proofs.Math.Decide.{ℕ_discrete}
use native.Mathlib.Omega.{arith}
use Rattle.std.proofs.Math.ListN.{length}
use Rattle.std.proofs.lemmas.List.{replicate-append-replicate}
use borrow.Author.Tests.{eq-eqb, ne_eqb, eqb-false, leb-true, not-false}
use Rattle.matching.specs.Definitions.Lists.{All}
use Rattle.matching.specs.Definitions.Nodes.{Node, Unique}
use Rattle.tables.specs.Definitions.Sizes.{number_size, position_size, capacity_size, farthest, most, most_sort, node_x, node_y, node_capacity, node_size, node_rows, table_size}
use Rattle.tables.specs.Definitions.Fields.{nat_at, position_at}
use Rattle.tables.specs.Definitions.Rows.{flat, padded}
use Rattle.tables.specs.Definitions.Tables.{capacity_in, sort_in, node_from, row_number, nodes_from, nodes_in, node_bytes, table_bytes, position_good, capacity_good, fields_good, fields_zero, stands_before, faulty, first_fault, Accepted, GoodNode, GoodNodes}
use Rattle.tables.specs.Laws.Fields.{bytes_drop, nat_high, nat_drop}
use Rattle.tables.specs.Laws.Rows.{or_split, and_split, none_from, zeros}
use Rattle.tables.specs.Laws.RowsRead.{rows_written}
use Rattle.tables.proofs.Laws.Tables.{number_drop, drop_row, nodes_zero, nodes_suc, nodes_length, node_write, zero_row}

-- The fields of a row are those of what stands from there on.
pub zero_drop : (t : List ℕ) (i : ℕ) → fields_zero t i ≡ fields_zero (drop i t) 0
unfolding fields_zero
zero_drop t i = rw (nat_drop position_size t i node_x (i + node_x) refl, nat_drop position_size t i node_y (i + node_y) refl, nat_drop capacity_size t i node_capacity (i + node_capacity) refl)

-- A row that is not faulty.
module _ (t : List ℕ) (k : ℕ) (f : faulty t k ≡ false) where
  without_number : row_number t k ≡ 0 → fields_zero t (node_size * k) ≡ true
  unfolding faulty
  without_number e = not-false (fields_zero t (node_size * k)) (rw (eq-eqb (row_number t k) 0 e) at f)

  with_number : (row_number t k ≡ 0 → ⊥) → (fields_good t (node_size * k) ≡ true) × (stands_before t k (row_number t k) ≡ false) × (stands_before t k 0 ≡ false)
  unfolding faulty
  with_number h =
      let a : (not (fields_good t (node_size * k)) || (stands_before t k (row_number t k) || stands_before t k 0)) ≡ false = rw (ne_eqb (row_number t k) 0 h) at f in
      let b = or_split (not (fields_good t (node_size * k))) (stands_before t k (row_number t k) || stands_before t k 0) a in
      let c = or_split (stands_before t k (row_number t k)) (stands_before t k 0) b.1 in
      (not-false (fields_good t (node_size * k)) b.0, c.0, c.1)

not_before : (t : List ℕ) (n j i : ℕ) → stands_before t j n ≡ false → i < j → row_number t i ≡ n → ⊥
unfolding stands_before
not_before t n zero i e h g = absurd (omega arith)
not_before t n (suc j) i e h g = go (ℕ_discrete i j) (or_split (eqb (row_number t j) n) (stands_before t j n) e) (not_before t n j i)
  where
    go : Dec (i ≡ j) → (eqb (row_number t j) n ≡ false) × (stands_before t j n ≡ false) → (stands_before t j n ≡ false → i < j → row_number t i ≡ n → ⊥) → ⊥
    go (yes d) s r = eqb-false (row_number t j) n s.0 (rw (← d) g)
    go (no d) s r = r s.1 (omega arith) g

pub capacity_range : (f : ℕ) → capacity_good f ≡ true → (1 ≤ capacity_in f) × (capacity_in f ≤ most) × (sort_in f ≤ most_sort)
unfolding capacity_good
capacity_range f h =
    let s = and_split (leb 1 (capacity_in f)) (leb (capacity_in f) most && leb (sort_in f) most_sort) h in
    let u = and_split (leb (capacity_in f) most) (leb (sort_in f) most_sort) s.1 in
    (leb-true 1 (capacity_in f) s.0, leb-true (capacity_in f) most u.0, leb-true (sort_in f) most_sort u.1)

-- The ranges of a row's fields.
pub fields_range : (t : List ℕ) (i : ℕ) → fields_good t i ≡ true
    → (nat_abs (position_at t (i + node_x)) ≤ farthest) × (nat_abs (position_at t (i + node_y)) ≤ farthest) × (1 ≤ capacity_in (nat_at capacity_size t (i + node_capacity))) × (capacity_in (nat_at capacity_size t (i + node_capacity)) ≤ most)
    × (sort_in (nat_at capacity_size t (i + node_capacity)) ≤ most_sort)
unfolding fields_good position_good
fields_range t i h =
    let a = and_split (leb (nat_abs (position_at t (i + node_x))) farthest) (leb (nat_abs (position_at t (i + node_y))) farthest && capacity_good (nat_at capacity_size t (i + node_capacity))) h in
    let b = and_split (leb (nat_abs (position_at t (i + node_y))) farthest) (capacity_good (nat_at capacity_size t (i + node_capacity))) a.1 in
    let c = capacity_range (nat_at capacity_size t (i + node_capacity)) b.1 in
    (leb-true (nat_abs (position_at t (i + node_x))) farthest a.0, leb-true (nat_abs (position_at t (i + node_y))) farthest b.0, c.0, c.1, c.2)

nodes_room : (t : List ℕ) (n k : ℕ) → length (nodes_from t k n) ≤ n
unfolding nodes_from
nodes_room t zero k = omega arith
nodes_room t (suc n) k = go (eqb (row_number t k) 0) (nodes_room t n (suc k))
  where
    go : (b : Bool) → length (nodes_from t (suc k) n) ≤ n → length (cond b [] (node_from t (node_size * k) ∷ nodes_from t (suc k) n)) ≤ suc n
    go true r = omega arith
    go false r = omega arith

-- A table has at most so many nodes, accepted or not.
pub room : (t : List ℕ) → length (nodes_in t) ≤ node_rows
unfolding nodes_in
room t = nodes_room t node_rows 0

-- The row behind its last node has no number,
end_row : (t : List ℕ) (n k : ℕ) → length (nodes_from t k n) < n → row_number t (k + length (nodes_from t k n)) ≡ 0
end_row t zero k h = absurd (omega arith)
end_row t (suc n) k h = go (ℕ_discrete (row_number t k) 0) h (end_row t n (suc k))
  where
    go : Dec (row_number t k ≡ 0) → length (nodes_from t k (suc n)) < suc n → (length (nodes_from t (suc k) n) < n → row_number t (suc k + length (nodes_from t (suc k) n)) ≡ 0)
        → row_number t (k + length (nodes_from t k (suc n))) ≡ 0
    go (yes d) h r = unfold nodes_from in let z : k + 0 ≡ k = omega arith in rw (eq-eqb (row_number t k) 0 d) (ap (row_number t) z ∙ d)
    go (no d) h r =
        unfold nodes_from in
        let z : k + suc (length (nodes_from t (suc k) n)) ≡ suc k + length (nodes_from t (suc k) n) = omega arith in
        rw (ne_eqb (row_number t k) 0 d) (ap (row_number t) z ∙ r (omega (arith, rw (ne_eqb (row_number t k) 0 d) at h)))

pub last_zero : (t : List ℕ) → length (nodes_in t) < node_rows → row_number t (length (nodes_in t)) ≡ 0
unfolding nodes_in
last_zero t h = ap (row_number t) (sym (zero-add (length (nodes_from t 0 node_rows)))) ∙ end_row t node_rows 0 h

-- and in a table without a fault there is none behind a row without one.
module _ (t : List ℕ) (faultless : first_fault t ≡ None) where
  all_clean : (k : ℕ) → k < node_rows → faulty t k ≡ false
  unfolding first_fault
  all_clean k g = none_from (faulty t) node_rows 0 k faultless (omega arith) (omega arith)

  pub still_zero : (i k : ℕ) → i ≤ k → k < node_rows → row_number t i ≡ 0 → row_number t k ≡ 0
  still_zero i k l h e = go (ℕ_discrete (row_number t k) 0) (ℕ_discrete i k)
    where
      go : Dec (row_number t k ≡ 0) → Dec (i ≡ k) → row_number t k ≡ 0
      go (yes d) s = d
      go (no d) (yes s) = ap (row_number t) (sym s) ∙ e
      go (no d) (no s) = absurd (not_before t 0 k i (with_number t k (all_clean k h) d).2 (omega arith) e)

module _ (t : List ℕ) (h : Accepted t) where
  clean : (k : ℕ) → k < node_rows → faulty t k ≡ false
  clean = all_clean t h.faultless

  zeros_from : (n k : ℕ) → k + n ≡ node_rows → (0 < n → row_number t k ≡ 0) → zeros (node_size * n) ≡ drop (node_size * k) t
  zeros_from zero k e z = let l : length t ≤ node_size * k = omega (arith, h.size) in sym (drop_of_length-le t l)
  zeros_from (suc n) k e z =
      ap zeros rows
      ∙ sym (replicate-append-replicate node_size (node_size * n) 0)
      ∙ ap (λ (r : List ℕ). zeros node_size ++ r) (zeros_from n (suc k) (omega arith) (λ g. still_zero t h.faultless k (suc k) (omega arith) (omega arith) (z (omega arith))) ∙ sym (drop_row t k))
      ∙ zero_row (drop (node_size * k) t) (bytes_drop (node_size * k) t h.bytes) (simp length-drop (omega (arith, h.size)))
      (sym (number_drop t k) ∙ z (omega arith))
      (sym (zero_drop t (node_size * k)) ∙ without_number t k (clean k (omega arith)) (z (omega arith)))
    where
      rows : node_size * suc n ≡ node_size + node_size * n
      rows = omega arith

  -- An accepted table is the table of its nodes.
  pub nodes_table : t ≡ table_bytes (nodes_in t)
  unfolding table_bytes nodes_in padded
  nodes_table =
      sym (take-append-drop (node_size * n) t)
      ∙ ap₂ (λ (u v : List ℕ). u ++ v) (sym rows) (sym (zeros_from (node_rows - n) n (omega (arith, room t)) (λ g. last_zero t (omega arith))) ∙ ap zeros rest)
    where
      n : ℕ
      n = length (nodes_in t)

      rows : flat node_bytes (nodes_in t) ≡ take (node_size * n) t
      rows = rows_written node_size node_bytes node_from number_size nodes_from nodes_zero nodes_suc node_write t h.bytes node_rows 0 (λ j g. omega (arith, h.size))

      rest : node_size * (node_rows - n) ≡ table_size - length (flat node_bytes (nodes_in t))
      rest = omega (arith, nodes_length (nodes_in t), room t)

  -- What every row with a number is, the nodes are.
  all_nodes : (P : Node → Type 0) (n k : ℕ) → k + n ≤ node_rows → ((j : ℕ) → k ≤ j → j < node_rows → (row_number t j ≡ 0 → ⊥) → P (node_from t (node_size * j))) → All P (nodes_from t k n)
  unfolding nodes_from
  all_nodes P zero k e f = tt
  all_nodes P (suc n) k e f = go (ℕ_discrete (row_number t k) 0) (all_nodes P n (suc k) (omega arith) (λ j g. f j (omega arith)))
    where
      go : Dec (row_number t k ≡ 0) → All P (nodes_from t (suc k) n) → All P (cond (eqb (row_number t k) 0) [] (node_from t (node_size * k) ∷ nodes_from t (suc k) n))
      go (yes d) r = rw (eq-eqb (row_number t k) 0 d) tt
      go (no d) r = rw (ne_eqb (row_number t k) 0 d) (f k (omega arith) (omega arith) d, r)

  all_unique : (n k : ℕ) → k + n ≤ node_rows → Unique (nodes_from t k n)
  unfolding nodes_from node_from row_number
  all_unique zero k e = tt
  all_unique (suc n) k e = go (ℕ_discrete (row_number t k) 0) (all_unique n (suc k) (omega arith))
    where
      go : Dec (row_number t k ≡ 0) → Unique (nodes_from t (suc k) n) → Unique (cond (eqb (row_number t k) 0) [] (node_from t (node_size * k) ∷ nodes_from t (suc k) n))
      go (yes d) r = rw (eq-eqb (row_number t k) 0 d) tt
      go (no d) r = rw (ne_eqb (row_number t k) 0 d) (
        all_nodes (λ w. row_number t k ≡ w.number → ⊥) n (suc k) (omega arith)
            (λ j g l z. not_before t (row_number t j) j k (with_number t j (clean j l) z).1 g),
        r,
      )

  row_good : (k : ℕ) → k < node_rows → (row_number t k ≡ 0 → ⊥) → GoodNode (node_from t (node_size * k))
  unfolding node_from row_number
  row_good k l z =
      let f = fields_range t (node_size * k) (with_number t k (clean k l) z).0 in
      let lo : 1 ≤ row_number t k = omega arith in
      record { low = lo; high = nat_high number_size t h.bytes (node_size * k); across = f.0; up = f.1; least = f.2; most = f.3; sort = f.4 }

  -- Its nodes are good.
  pub nodes_good : GoodNodes (nodes_in t)
  unfolding nodes_in
  nodes_good = record {
    good = all_nodes GoodNode node_rows 0 (omega arith) (λ j g l z. row_good j l z);
    unique = all_unique node_rows 0 (omega arith);
    room = nodes_room t node_rows 0;
  }
