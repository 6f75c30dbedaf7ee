-- A master's table: the nodes first, in any order, and zero rows after.
use Rattle.std.specs.Prelude.{ℕ, zero, suc, ◌+◌, ◌*◌, ◌/◌, ◌%◌, ◌<◌, ◌≤◌, ◌≡◌, Bool, false, cond, not, ◌&&◌, ◌||◌, List, [], ◌∷◌, ◌++◌, Option, None, leb, eqb, ℤ, nat_abs, length}
use Rattle.matching.specs.Definitions.Lists.{All}
use Rattle.matching.specs.Definitions.Nodes.{Node, Unique}
use Rattle.tables.specs.Definitions.Sizes.{number_size, position_size, capacity_size, byte_end, number_end, farthest, most, most_sort, node_x, node_y, node_capacity, node_size, node_rows, table_size}
use Rattle.tables.specs.Definitions.Fields.{Bytes, nat_at, nat_bytes, unsigned, position_at}
use Rattle.tables.specs.Definitions.Rows.{flat, padded, first_from}

-- The capacity field: its low byte is the capacity, its high byte the sort;
abbrev pub capacity_in : ℕ → ℕ
capacity_in f = f % byte_end

abbrev pub sort_in : ℕ → ℕ
sort_in f = f / byte_end

-- and the field of a node.
abbrev pub field_of : Node → ℕ
field_of v = v.capacity + byte_end * v.sort

-- The node whose row begins at byte i.
unfoldable pub node_from : List ℕ → ℕ → Node
unfolding nat_at position_at
node_from t i = record {
  number = nat_at number_size t i;
  x = position_at t (i + node_x);
  y = position_at t (i + node_y);
  capacity = capacity_in (nat_at capacity_size t (i + node_capacity));
  sort = sort_in (nat_at capacity_size t (i + node_capacity));
}

-- The number in row k.
unfoldable pub row_number : List ℕ → ℕ → ℕ
unfolding nat_at
row_number t k = nat_at number_size t (node_size * k)

-- The nodes of the n rows from row k on: they end before the first row without a number.
unfoldable pub nodes_from : List ℕ → ℕ → ℕ → List Node
unfolding row_number node_from
nodes_from t k zero = []
nodes_from t k (suc n) = cond (eqb (row_number t k) 0) [] (node_from t (node_size * k) ∷ nodes_from t (suc k) n)

-- The nodes of a table, in row order.
unfoldable pub nodes_in : List ℕ → List Node
unfolding nodes_from
nodes_in t = nodes_from t 0 node_rows

-- A node's row, and the table of some nodes.
unfoldable pub node_bytes : Node → List ℕ
unfolding nat_bytes unsigned
node_bytes v =
    nat_bytes number_size v.number
    ++ (nat_bytes position_size (unsigned v.x) ++ (nat_bytes position_size (unsigned v.y) ++ nat_bytes capacity_size (field_of v)))

unfoldable pub table_bytes : List Node → List ℕ
unfolding padded flat node_bytes
table_bytes A = padded table_size (flat node_bytes A)

-- The ranges of a position and of a capacity field.
unfoldable pub position_good : ℤ → Bool
position_good z = leb (nat_abs z) farthest

unfoldable pub capacity_good : ℕ → Bool
capacity_good f = leb 1 (capacity_in f) && (leb (capacity_in f) most && leb (sort_in f) most_sort)

-- The fields of the row that begins at byte i, but for the number: within their ranges; all zero.
unfoldable pub fields_good : List ℕ → ℕ → Bool
unfolding nat_at position_at position_good capacity_good
fields_good t i = position_good (position_at t (i + node_x)) && (position_good (position_at t (i + node_y)) && capacity_good (nat_at capacity_size t (i + node_capacity)))

unfoldable pub fields_zero : List ℕ → ℕ → Bool
unfolding nat_at
fields_zero t i =
    eqb (nat_at position_size t (i + node_x)) 0 && (eqb (nat_at position_size t (i + node_y)) 0 && eqb (nat_at capacity_size t (i + node_capacity)) 0)

-- A row ahead of row k has the number n.
unfoldable pub stands_before : List ℕ → ℕ → ℕ → Bool
unfolding row_number
stands_before t zero n = false
stands_before t (suc j) n = eqb (row_number t j) n || stands_before t j n

-- A faulty row: with a number, a field out of range, the number in a row ahead, or a row ahead without a number;
-- without a number, another byte that is not zero.
unfoldable pub faulty : List ℕ → ℕ → Bool
unfolding row_number fields_good fields_zero stands_before
faulty t k =
    cond (eqb (row_number t k) 0)
    (not (fields_zero t (node_size * k)))
    (not (fields_good t (node_size * k)) || (stands_before t k (row_number t k) || stands_before t k 0))

unfoldable pub first_fault : List ℕ → Option ℕ
unfolding first_from faulty
first_fault t = first_from (faulty t) 0 node_rows

-- An accepted table has the stated length and no faulty row.
pub record Accepted (t : List ℕ) : Type 0 where
  pub bytes : Bytes t
  pub size : length t ≡ table_size
  pub faultless : first_fault t ≡ None

-- What document 01 asks of a node, and of the nodes of a master.
pub record GoodNode (v : Node) : Type 0 where
  pub low : 1 ≤ v.number
  pub high : v.number < number_end
  pub across : nat_abs v.x ≤ farthest
  pub up : nat_abs v.y ≤ farthest
  pub least : 1 ≤ v.capacity
  pub most : v.capacity ≤ most
  pub sort : v.sort ≤ most_sort

pub record GoodNodes (A : List Node) : Type 0 where
  pub good : All GoodNode A
  pub unique : Unique A
  pub room : length A ≤ node_rows
