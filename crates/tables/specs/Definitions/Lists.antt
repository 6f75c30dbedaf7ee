-- The link list: the links first, zero rows after.
use Rattle.std.specs.Prelude.{ℕ, zero, suc, ◌+◌, ◌*◌, ◌-◌, Bool, cond, not, List, [], ◌∷◌, ◌++◌, Option, eqb, get_or}
use Rattle.matching.specs.Definitions.Links.{Link}
use Rattle.matching.specs.Definitions.Join.{join}
use Rattle.tables.specs.Definitions.Sizes.{number_size, distance_size, amount_size, link_b, link_distance, link_amount, link_size, link_rows, list_size}
use Rattle.tables.specs.Definitions.Fields.{nat_at, nat_bytes}
use Rattle.tables.specs.Definitions.Rows.{flat, padded, first_from, all_from}
use Rattle.tables.specs.Definitions.Tables.{nodes_in}

-- A link's row, and the list of some links.
unfoldable pub link_bytes : Link → List ℕ
unfolding nat_bytes
link_bytes l =
    nat_bytes number_size l.a
    ++ (nat_bytes number_size l.b ++ (nat_bytes distance_size l.distance ++ nat_bytes amount_size l.amount))

unfoldable pub list_bytes : List Link → List ℕ
unfolding padded flat link_bytes
list_bytes K = padded list_size (flat link_bytes K)

-- The finished list of two tables: the links of the join in order, then zero rows.
unfoldable pub finished : List ℕ → List ℕ → List ℕ
unfolding list_bytes join nodes_in
finished a b = list_bytes (join (nodes_in a) (nodes_in b))

-- The link whose row begins at byte i.
unfoldable pub link_from : List ℕ → ℕ → Link
unfolding nat_at
link_from l i = record {
  a = nat_at number_size l i;
  b = nat_at number_size l (i + link_b);
  distance = nat_at distance_size l (i + link_distance);
  amount = nat_at amount_size l (i + link_amount);
}

-- The links of the n rows from row k on: they end before the first row without an A number.
unfoldable pub links_from : List ℕ → ℕ → ℕ → List Link
unfolding nat_at link_from
links_from l k zero = []
links_from l k (suc n) = cond (eqb (nat_at number_size l (link_size * k)) 0) [] (link_from l (link_size * k) ∷ links_from l (suc k) n)

unfoldable pub links_in : List ℕ → List Link
unfolding links_from
links_in l = links_from l 0 link_rows

-- Row k of l differs from row k of f.
unfoldable pub differs : List ℕ → List ℕ → ℕ → Bool
unfolding all_from
differs l f k = not (all_from (λ i. eqb (get_or l i 0) (get_or f i 0)) (link_size * k) link_size)

-- The first row of l that differs from that of f.
unfoldable pub first_difference : List ℕ → List ℕ → Option ℕ
unfolding first_from differs
first_difference l f = first_from (differs l f) 0 link_rows

-- Every byte of l from row k to the end is zero.
unfoldable pub zero_from : List ℕ → ℕ → Bool
unfolding all_from
zero_from l k = all_from (λ i. eqb (get_or l i 0) 0) (link_size * k) (list_size - link_size * k)
