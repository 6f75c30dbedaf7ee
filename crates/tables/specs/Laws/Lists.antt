-- The links of a list of links are these links; its bytes and its length; rows compared.
use Rattle.std.specs.Prelude.{ℕ, suc, ◌+◌, ◌*◌, ◌-◌, ◌^◌, ◌<◌, ◌≤◌, ◌≡◌, refl, cond, List, [], ◌∷◌, ◌++◌, eqb, length, get_or, drop}
use Rattle.std.proofs.Common.{◌∙◌, ap, arith}
use Rattle.matching.specs.Definitions.Lists.{All}
use Rattle.matching.specs.Definitions.Links.{Link}
use Rattle.tables.specs.Definitions.Sizes.{number_size, number_end, distance_size, amount_size, link_b, link_distance, link_amount, link_size, link_rows, list_size}
use Rattle.tables.specs.Definitions.Fields.{Bytes, nat_at, nat_bytes}
use Rattle.tables.specs.Definitions.Rows.{flat, padded}
use Rattle.tables.specs.Definitions.Lists.{link_bytes, list_bytes, link_from, links_from, links_in}
use Rattle.tables.specs.Laws.Fields.{four_bytes, nat_drop, nat_read}
use Rattle.tables.specs.Laws.Rows.{flat-length}
use Rattle.tables.specs.Laws.RowsRead.{padded-length, rows_bytes, row_at, rows_read}

-- What the fields of a row can hold.
pub record GoodLink (l : Link) : Type 0 where
  pub low : 1 ≤ l.a
  pub a_fits : l.a < number_end
  pub b_fits : l.b < number_end
  pub distance_fits : l.distance < 256 ^ distance_size
  pub amount_fits : l.amount < 256 ^ amount_size

pub link_length : (l : Link) → length (link_bytes l) ≡ link_size
unfolding link_bytes nat_bytes
link_length l = refl

pub links_length : (K : List Link) → length (flat link_bytes K) ≡ link_size * length K
links_length K = flat-length link_bytes link_size link_length K

pub list_length : (K : List Link) → length K ≤ link_rows → length (list_bytes K) ≡ list_size
unfolding list_bytes
list_length K h = padded-length list_size (flat link_bytes K) (omega (arith, links_length K))

link_bytes_lem : (l : Link) → Bytes (link_bytes l)
unfolding link_bytes
link_bytes_lem l = four_bytes number_size number_size distance_size amount_size l.a l.b l.distance l.amount

pub list_bytes_lem : (K : List Link) → Bytes (list_bytes K)
unfolding list_bytes
list_bytes_lem K = rows_bytes link_bytes link_bytes_lem list_size K

-- A row is the first row of what stands from there on.
pub link_drop : (l : List ℕ) (i : ℕ) → link_from l i ≡ link_from (drop i l) 0
unfolding link_from
link_drop l i = λ j. record {
  a = nat_drop number_size l i 0 i (omega arith) j;
  b = nat_drop number_size l i link_b (i + link_b) refl j;
  distance = nat_drop distance_size l i link_distance (i + link_distance) refl j;
  amount = nat_drop amount_size l i link_amount (i + link_amount) refl j;
}

-- A link's row read back.
pub link_read : (l : Link) (r : List ℕ) → GoodLink l → link_from (link_bytes l ++ r) 0 ≡ l
unfolding link_from link_bytes nat_bytes
link_read l r g = λ i. record {
  a = nat_read number_size l.a (nat_bytes number_size l.b ++ (nat_bytes distance_size l.distance ++ nat_bytes amount_size l.amount) ++ r) g.a_fits i;
  b = (nat_drop number_size (link_bytes l ++ r) link_b 0 link_b refl ∙ nat_read number_size l.b (nat_bytes distance_size l.distance ++ nat_bytes amount_size l.amount ++ r) g.b_fits) i;
  distance = (nat_drop distance_size (link_bytes l ++ r) link_distance 0 link_distance refl ∙ nat_read distance_size l.distance (nat_bytes amount_size l.amount ++ r) g.distance_fits) i;
  amount = (nat_drop amount_size (link_bytes l ++ r) link_amount 0 link_amount refl ∙ nat_read amount_size l.amount r g.amount_fits) i;
}

number_read : (l : Link) (r : List ℕ) → GoodLink l → nat_at number_size (link_bytes l ++ r) 0 ≡ l.a
unfolding link_from
number_read l r g = ap (λ (k : Link). k.a) (link_read l r g)

-- Row k of a list of links is that of the k-th; behind them there is d.
pub link_at : (K : List Link) (r : List ℕ) (k : ℕ) (d : Link) → All GoodLink K → ((i : ℕ) → link_from r i ≡ d) → link_from (flat link_bytes K ++ r) (link_size * k) ≡ get_or K k d
link_at = row_at link_size link_bytes link_from GoodLink link_length link_drop link_read

pub links_zero : (l : List ℕ) (k : ℕ) → links_from l k 0 ≡ []
unfolding links_from
links_zero l k = refl

pub links_suc : (l : List ℕ) (k n : ℕ) → links_from l k (suc n) ≡ cond (eqb (nat_at number_size l (link_size * k)) 0) [] (link_from l (link_size * k) ∷ links_from l (suc k) n)
unfolding links_from
links_suc l k n = refl

-- The links of a list of links are these links.
pub list_links : (K : List Link) → All GoodLink K → length K ≤ link_rows → links_in (list_bytes K) ≡ K
unfolding links_in list_bytes padded
list_links K g h =
    rows_read link_size link_bytes link_from GoodLink link_length link_drop link_read number_size links_from links_zero links_suc
    (λ l r g z. omega (arith, g.low, number_read l r g)) K (list_bytes K) (list_size - length (flat link_bytes K)) 0 link_rows g h refl
