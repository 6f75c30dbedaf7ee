-- An accepted table is exactly the table of its nodes, and the table of any good nodes is accepted (Laws.Accepted).
use Rattle.std.specs.Prelude.{ℕ, suc, ◌+◌, ◌*◌, ◌-◌, ◌≤◌, ◌≡◌, refl, true, cond, ◌&&◌, List, [], ◌∷◌, ◌++◌, eqb, length, get_or, take, drop}
use Rattle.std.proofs.Common.{◌∙◌, ap, arith, take-append-drop, drop-drop, eqb-true}
use Rattle.matching.specs.Definitions.Lists.{All}
use Rattle.matching.specs.Definitions.Nodes.{Node}
use Rattle.tables.specs.Definitions.Sizes.{number_size, position_size, capacity_size, node_x, node_y, node_capacity, node_size, node_rows, table_size}
use Rattle.tables.specs.Definitions.Fields.{Bytes, nat_at, nat_bytes, signed, unsigned, position_at}
use Rattle.tables.specs.Definitions.Rows.{flat, padded}
use Rattle.tables.specs.Definitions.Tables.{capacity_in, sort_in, field_of, node_from, row_number, nodes_from, nodes_in, node_bytes, table_bytes, fields_zero, GoodNode, GoodNodes}
use Rattle.tables.specs.Laws.Fields.{nat_high, nat_drop, nat_read, four_read, field_capacity, field_sort, field_high, field_whole, signed-unsigned, unsigned_high, unsigned_signed}
use Rattle.tables.specs.Laws.Rows.{and_split, zeros, flat-length}
use Rattle.tables.specs.Laws.RowsRead.{padded-length, row_at, rows_read}

-- A row is the first row of what stands from there on.
pub node_drop : (t : List ℕ) (i : ℕ) → node_from t i ≡ node_from (drop i t) 0
unfolding node_from position_at
node_drop t i = λ j. record {
  number = nat_drop number_size t i 0 i (omega arith) j;
  x = signed (nat_drop position_size t i node_x (i + node_x) refl j);
  y = signed (nat_drop position_size t i node_y (i + node_y) refl j);
  capacity = capacity_in (nat_drop capacity_size t i node_capacity (i + node_capacity) refl j);
  sort = sort_in (nat_drop capacity_size t i node_capacity (i + node_capacity) refl j);
}

pub number_drop : (t : List ℕ) (k : ℕ) → row_number t k ≡ row_number (drop (node_size * k) t) 0
unfolding row_number
number_drop t k = nat_drop number_size t (node_size * k) 0 (node_size * k) (omega arith)

pub drop_row : (t : List ℕ) (k : ℕ) → drop node_size (drop (node_size * k) t) ≡ drop (node_size * suc k) t
drop_row t k = let e : node_size * k + node_size ≡ node_size * suc k = omega arith in drop-drop node_size (node_size * k) t ∙ ap (λ (i : ℕ). drop i t) e

-- A node's row read back.
pub node_length : (v : Node) → length (node_bytes v) ≡ node_size
unfolding node_bytes nat_bytes
node_length v = refl

field_read : (v : Node) (r : List ℕ) → GoodNode v → nat_at capacity_size (node_bytes v ++ r) node_capacity ≡ field_of v
unfolding node_bytes nat_bytes
field_read v r g = nat_drop capacity_size (node_bytes v ++ r) node_capacity 0 node_capacity refl ∙ nat_read capacity_size (field_of v) r (field_high v g.most g.sort)

pub node_read : (v : Node) (r : List ℕ) → GoodNode v → node_from (node_bytes v ++ r) 0 ≡ v
unfolding node_from node_bytes nat_bytes position_at
node_read v r g = λ i. record {
  number = nat_read number_size v.number (nat_bytes position_size (unsigned v.x) ++ (nat_bytes position_size (unsigned v.y) ++ nat_bytes capacity_size (field_of v)) ++ r) g.high i;
  x = (ap signed (nat_drop position_size (node_bytes v ++ r) node_x 0 node_x refl ∙ nat_read position_size (unsigned v.x) (nat_bytes position_size (unsigned v.y) ++ nat_bytes capacity_size (field_of v) ++ r) (unsigned_high v.x g.across)) ∙ signed-unsigned v.x g.across) i;
  y = (ap signed (nat_drop position_size (node_bytes v ++ r) node_y 0 node_y refl ∙ nat_read position_size (unsigned v.y) (nat_bytes capacity_size (field_of v) ++ r) (unsigned_high v.y g.up)) ∙ signed-unsigned v.y g.up) i;
  capacity = (ap capacity_in (field_read v r g) ∙ field_capacity v g.most) i;
  sort = (ap sort_in (field_read v r g) ∙ field_sort v g.most) i;
}

number_read : (v : Node) (r : List ℕ) → GoodNode v → nat_at number_size (node_bytes v ++ r) 0 ≡ v.number
unfolding node_from
number_read v r g = ap (λ (w : Node). w.number) (node_read v r g)

-- Row k of a table of nodes is that of the k-th; behind them there is d.
pub node_at : (A : List Node) (r : List ℕ) (k : ℕ) (d : Node) → All GoodNode A → ((i : ℕ) → node_from r i ≡ d) → node_from (flat node_bytes A ++ r) (node_size * k) ≡ get_or A k d
node_at = row_at node_size node_bytes node_from GoodNode node_length node_drop node_read

pub nodes_zero : (t : List ℕ) (k : ℕ) → nodes_from t k 0 ≡ []
unfolding nodes_from
nodes_zero t k = refl

pub nodes_suc : (t : List ℕ) (k n : ℕ) → nodes_from t k (suc n) ≡ cond (eqb (nat_at number_size t (node_size * k)) 0) [] (node_from t (node_size * k) ∷ nodes_from t (suc k) n)
unfolding nodes_from row_number
nodes_suc t k n = refl

-- The nodes of a table of nodes are these nodes.
pub table_nodes : (A : List Node) → GoodNodes A → nodes_in (table_bytes A) ≡ A
unfolding nodes_in table_bytes padded
table_nodes A m =
    rows_read node_size node_bytes node_from GoodNode node_length node_drop node_read number_size nodes_from nodes_zero nodes_suc
    (λ v r g z. omega (arith, g.low, number_read v r g)) A (table_bytes A) (table_size - length (flat node_bytes A)) 0 node_rows m.good m.room refl

pub nodes_length : (A : List Node) → length (flat node_bytes A) ≡ node_size * length A
nodes_length A = flat-length node_bytes node_size node_length A

pub table_length : (A : List Node) → length A ≤ node_rows → length (table_bytes A) ≡ table_size
unfolding table_bytes
table_length A h = padded-length table_size (flat node_bytes A) (omega (arith, nodes_length A))

-- The other way round. The fields of a row are the bytes that stand there,
row_fields : (r : List ℕ) (i : ℕ) → Bytes r → i + node_size ≤ length r
    → nat_bytes number_size (nat_at number_size r i) ++ (nat_bytes position_size (nat_at position_size r (i + node_x)) ++ (nat_bytes position_size (nat_at position_size r (i + node_y)) ++ nat_bytes capacity_size (nat_at capacity_size r (i + node_capacity)))) ≡ take node_size (drop i r)
row_fields r i h l = four_read number_size position_size position_size capacity_size r i (i + node_x) (i + node_y) (i + node_capacity) h refl (omega arith) (omega arith) (omega arith)

-- so its node's bytes are,
pub node_write : (r : List ℕ) (i : ℕ) → Bytes r → i + node_size ≤ length r → node_bytes (node_from r i) ≡ take node_size (drop i r)
unfolding node_bytes node_from position_at
node_write r i h l =
    rw (unsigned_signed (nat_at position_size r (i + node_x)) (nat_high position_size r h (i + node_x)), unsigned_signed (nat_at position_size r (i + node_y)) (nat_high position_size r h (i + node_y)), field_whole (nat_at capacity_size r (i + node_capacity)))
    (row_fields r i h l)

pub row_node : (r : List ℕ) → Bytes r → node_size ≤ length r → node_bytes (node_from r 0) ++ drop node_size r ≡ r
row_node r h l = ap (λ (s : List ℕ). s ++ drop node_size r) (node_write r 0 h l) ∙ take-append-drop node_size r

-- and without a number and with no other byte they are zero.
pub zero_row : (r : List ℕ) → Bytes r → node_size ≤ length r → row_number r 0 ≡ 0 → fields_zero r 0 ≡ true → zeros node_size ++ drop node_size r ≡ r
unfolding row_number fields_zero nat_bytes
zero_row r h l n z =
    let s = and_split (eqb (nat_at position_size r node_x) 0) (eqb (nat_at position_size r node_y) 0 && eqb (nat_at capacity_size r node_capacity) 0) z in
    let u = and_split (eqb (nat_at position_size r node_y) 0) (eqb (nat_at capacity_size r node_capacity) 0) s.1 in
    let x = eqb-true (nat_at position_size r node_x) 0 s.0 in
    let y = eqb-true (nat_at position_size r node_y) 0 u.0 in
    let c = eqb-true (nat_at capacity_size r node_capacity) 0 u.1 in
    ap (λ (s : List ℕ). s ++ drop node_size r) (rw (n, x, y, c) at (row_fields r 0 h l)) ∙ take-append-drop node_size r
