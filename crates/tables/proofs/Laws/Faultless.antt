-- The table of good nodes is accepted.
use Prim.Native.Nat.{ℕ, zero, suc, ◌+◌, ◌*◌, ◌-◌, ◌<◌, ◌≤◌}
use Rattle.std.specs.Prelude.{◌≡◌, refl, true, false, ◌&&◌, pos, nat_abs, get_or}
use Rattle.std.proofs.Common.{sym, ◌∙◌, arith}
use Rattle.std.proofs.Math.Path.{ap}
use mathlib.Core.List.{List}
use Rattle.std.proofs.Math.Decide.{dec_lt}
use Rattle.std.proofs.Math.Dec.{leb}
use Rattle.std.proofs.Math.ListN.{length, drop}
use Rattle.std.proofs.Math.Seq.{drop-append-add}
use borrow.Author.Tests.{ne_eqb, le-leb}
use Rattle.matching.specs.Definitions.Nodes.{Node}
use Rattle.matching.proofs.Laws.Lists.{all_get}
use Rattle.matching.proofs.Laws.Columns.{same_place}
use Rattle.tables.specs.Definitions.Sizes.{number_size, position_size, capacity_size, farthest, most, most_sort, node_x, node_y, node_capacity, node_size, node_rows, table_size}
use Rattle.tables.specs.Definitions.Fields.{Bytes, signed, unsigned, position_at}
use Rattle.tables.specs.Definitions.Rows.{flat, padded}
use Rattle.tables.specs.Definitions.Tables.{capacity_in, sort_in, field_of, node_from, row_number, node_bytes, table_bytes, position_good, capacity_good, fields_good, fields_zero, stands_before, faulty, first_fault, Accepted, GoodNode, GoodNodes}
use Rattle.tables.specs.Laws.Fields.{nat_zeros, four_bytes}
use Rattle.tables.specs.Laws.Rows.{from_none, zeros, drop-zeros}
use Rattle.tables.specs.Laws.RowsRead.{rows_bytes}
use Rattle.tables.proofs.Laws.Tables.{number_drop, node_at, nodes_length, table_length}
use Rattle.tables.proofs.Laws.Accepted.{zero_drop}

abbrev blank : Node
blank = record { number = 0; x = pos 0; y = pos 0; capacity = 0; sort = 0 }

zero_node : (n i : ℕ) → node_from (zeros n) i ≡ blank
unfolding node_from position_at signed
zero_node n i = λ t. record {
  number = nat_zeros number_size n i t;
  x = signed (nat_zeros position_size n (i + node_x) t);
  y = signed (nat_zeros position_size n (i + node_y) t);
  capacity = capacity_in (nat_zeros capacity_size n (i + node_capacity) t);
  sort = sort_in (nat_zeros capacity_size n (i + node_capacity) t);
}

pub not_stands : (t : List ℕ) (n j : ℕ) → ((i : ℕ) → i < j → row_number t i ≡ n → ⊥) → stands_before t j n ≡ false
unfolding stands_before
not_stands t n zero f = refl
not_stands t n (suc j) f = rw (ne_eqb (row_number t j) n (f j (omega arith))) (not_stands t n j (λ i h. f i (omega arith)))

node_bytes_lem : (v : Node) → Bytes (node_bytes v)
unfolding node_bytes
node_bytes_lem v = four_bytes number_size position_size position_size capacity_size v.number (unsigned v.x) (unsigned v.y) (field_of v)

zeros_number : (n : ℕ) → row_number (zeros n) 0 ≡ 0
unfolding row_number
zeros_number n = nat_zeros number_size n 0

zeros_fields : (n : ℕ) → fields_zero (zeros n) 0 ≡ true
unfolding fields_zero
zeros_fields n = rw (nat_zeros position_size n node_x, nat_zeros position_size n node_y, nat_zeros capacity_size n node_capacity)

module _ (A : List Node) (m : GoodNodes A) where
  abbrev t : List ℕ
  t = table_bytes A

  at : (k : ℕ) → node_from t (node_size * k) ≡ get_or A k blank
  unfolding table_bytes padded
  at k = let n : ℕ = table_size - length (flat node_bytes A) in node_at A (zeros n) k blank m.good (zero_node n)

  good_at : (k : ℕ) → k < length A → GoodNode (get_or A k blank)
  good_at k h = all_get GoodNode A k blank h m.good

  number_at : (k : ℕ) → row_number t k ≡ (get_or A k blank).number
  unfolding node_from row_number
  number_at k = ap (λ (v : Node). v.number) (at k)

  fields_at : (k : ℕ) → k < length A → fields_good t (node_size * k) ≡ true
  unfolding fields_good node_from position_good capacity_good
  fields_at k h =
      let g = good_at k h in
      ap (λ (v : Node). position_good v.x && (position_good v.y && (leb 1 v.capacity && (leb v.capacity most && leb v.sort most_sort)))) (at k)
      ∙ rw (
        le-leb (nat_abs (get_or A k blank).x) farthest g.across,
        le-leb (nat_abs (get_or A k blank).y) farthest g.up,
        le-leb 1 (get_or A k blank).capacity g.least,
        le-leb (get_or A k blank).capacity most g.most,
        le-leb (get_or A k blank).sort most_sort g.sort,
      )

  -- a row with a node
  node_clean : (k : ℕ) → k < length A → faulty t k ≡ false
  unfolding faulty
  node_clean k h =
      rw (
        ne_eqb (row_number t k) 0 (λ z. omega (arith, number_at k, (good_at k h).low)),
        fields_at k h,
        not_stands t (row_number t k) k (λ i l q. omega (arith, same_place A i k blank m.unique (omega arith) h (sym (number_at i) ∙ q ∙ number_at k))),
        not_stands t 0 k (λ i l q. omega (arith, number_at i, (good_at i (omega arith)).low)),
      )

  -- a row behind them
  zeros_at : (k : ℕ) → length A ≤ k → drop (node_size * k) t ≡ zeros (table_size - length (flat node_bytes A) - node_size * (k - length A))
  unfolding table_bytes padded
  zeros_at k h =
      ap (λ (i : ℕ). drop i t) sums
      ∙ drop-append-add (flat node_bytes A) (zeros (table_size - length (flat node_bytes A))) (node_size * (k - length A))
      ∙ drop-zeros (node_size * (k - length A)) (table_size - length (flat node_bytes A))
    where
      sums : node_size * k ≡ length (flat node_bytes A) + node_size * (k - length A)
      sums = omega (arith, nodes_length A)

  zero_clean : (k : ℕ) → length A ≤ k → faulty t k ≡ false
  unfolding faulty
  zero_clean k h =
      let rest : ℕ = table_size - length (flat node_bytes A) - node_size * (k - length A) in
      rw (
        number_drop t k ∙ ap (λ (r : List ℕ). row_number r 0) (zeros_at k h) ∙ zeros_number rest,
        zero_drop t (node_size * k) ∙ ap (λ (r : List ℕ). fields_zero r 0) (zeros_at k h) ∙ zeros_fields rest,
      )

  clean : (k : ℕ) → faulty t k ≡ false
  clean k = go (dec_lt k (length A))
    where
      go : Dec (k < length A) → faulty t k ≡ false
      go (yes h) = node_clean k h
      go (no h) = zero_clean k (omega arith)

  pub table_accepted : Accepted t
  unfolding first_fault table_bytes
  table_accepted = record {
    bytes = rows_bytes node_bytes node_bytes_lem table_size A;
    size = table_length A m.room;
    faultless = from_none (faulty t) node_rows 0 (λ k h g. clean k);
  }
