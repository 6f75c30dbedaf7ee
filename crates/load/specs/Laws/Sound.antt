-- The quick verdict on a table: what its tests show is that no row is faulty.
use Rattle.std.specs.Prelude.{None, ℕ, suc, ◌*◌, ◌<◌, ◌≤◌, ◌≡◌, true, false, List, [], ◌∷◌, length, get_or}
use Rattle.std.proofs.Common.{sym, ◌∙◌, zero-add, eq-eqb, ne_eqb, arith}
use Rattle.std.proofs.Math.Path.{ap}
use Rattle.std.proofs.Math.Decide.{dec_lt}
use Rattle.matching.specs.Definitions.Lists.{All}
use Rattle.matching.specs.Definitions.Nodes.{Node, Unique}
use Rattle.matching.proofs.Laws.Columns.{same_place}
use Rattle.tables.specs.Definitions.Sizes.{node_size, node_rows}
use Rattle.tables.specs.Definitions.Tables.{node_from, row_number, nodes_in, fields_good, faulty, first_fault}
use Rattle.tables.specs.Laws.Rows.{from_none}
use Rattle.tables.specs.Laws.Nodes.{RowAt, rows_at}
use Rattle.tables.proofs.Laws.Accepted.{room, fields_range}
use Rattle.tables.proofs.Laws.Faultless.{not_stands}
use Rattle.load.specs.Fault.{ZeroRow}

-- A table ends where its rows are zero from there on.
pub no_more : (t : List ℕ) (n : ℕ) → ((k : ℕ) → n ≤ k → k < node_rows → ZeroRow t k) → length (nodes_in t) ≤ n
no_more t n zeros = go (dec_lt n (length (nodes_in t)))
  where
    go : Dec (n < length (nodes_in t)) → length (nodes_in t) ≤ n
    go (no l) = omega arith
    go (yes l) = absurd (unfold nodes_in in (rows_at t (node_from t 0) node_rows 0 n l).numbered
        (ap (row_number t) (zero-add n) ∙ (zeros n (omega arith) (omega (arith, room t))).number))

-- What holds of every index holds of every element.
all_from_lem : (P : Node → Type 0) (A : List Node) (d : Node) → ((k : ℕ) → k < length A → P (get_or A k d)) → All P A
all_from_lem P [] d h = tt
all_from_lem P (v ∷ A) d h = (h 0 (omega arith), all_from_lem P A d (λ k l. h (suc k) (omega arith)))

-- Where the fields of its rows are good, its nodes are of a sort.
pub sorts_good : (t : List ℕ) → ((k : ℕ) → k < length (nodes_in t) → fields_good t (node_size * k) ≡ true) → All (λ v. v.sort ≤ 1) (nodes_in t)
sorts_good t good = all_from_lem (λ v. v.sort ≤ 1) (nodes_in t) (node_from t 0) (λ k h.
    unfold nodes_in node_from in
    let e = (rows_at t (node_from t 0) node_rows 0 k h).node ∙ ap (λ (j : ℕ). node_from t (node_size * j)) (zero-add k) in
    rw e (fields_range t (node_size * k) (good k h)).4)

module _ (t : List ℕ)
    (good : (k : ℕ) → k < length (nodes_in t) → fields_good t (node_size * k) ≡ true)
    (zeros : (k : ℕ) → length (nodes_in t) ≤ k → k < node_rows → ZeroRow t k)
    (unique : Unique (nodes_in t)) where
  -- any node: what stands past the end
  abbrev other : Node
  other = node_from t 0

  row : (k : ℕ) → k < length (nodes_in t) → RowAt t (nodes_in t) 0 k other
  unfolding nodes_in
  row k h = rows_at t other node_rows 0 k h

  numbered : (k : ℕ) → k < length (nodes_in t) → row_number t k ≡ 0 → ⊥
  numbered k h e = (row k h).numbered (ap (row_number t) (zero-add k) ∙ e)

  number : (k : ℕ) → k < length (nodes_in t) → (get_or (nodes_in t) k other).number ≡ row_number t k
  unfolding node_from row_number
  number k h = ap (λ (v : Node). v.number) (row k h).node ∙ ap (row_number t) (zero-add k)

  -- no row ahead has the same number
  ahead : (k : ℕ) → k < length (nodes_in t) → (i : ℕ) → i < k → row_number t i ≡ row_number t k → ⊥
  ahead k h i l e =
      omega (arith, same_place (nodes_in t) i k other unique (omega arith) h (number i (omega arith) ∙ e ∙ sym (number k h)))

  clean : (k : ℕ) → k < node_rows → faulty t k ≡ false
  unfolding faulty
  clean k h = go (dec_lt k (length (nodes_in t)))
    where
      go : Dec (k < length (nodes_in t)) → faulty t k ≡ false
      go (yes l) = rw (ne_eqb (row_number t k) 0 (numbered k l), good k l, not_stands t (row_number t k) k (ahead k l))
          (not_stands t 0 k (λ i g e. numbered i (omega arith) e))
      go (no l) = let z = zeros k (omega arith) h in rw (eq-eqb (row_number t k) 0 z.number, z.fields)

  pub faultless : first_fault t ≡ None
  unfolding first_fault
  faultless = from_none (faulty t) node_rows 0 (λ k h g. clean k (omega arith))
