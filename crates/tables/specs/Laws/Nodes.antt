-- The nodes of a table by their rows.
use Prim.Native.Nat.{ℕ, zero, suc, ◌+◌, ◌*◌, ◌-◌, ◌<◌, ◌≤◌}
use Rattle.std.specs.Prelude.{◌≡◌, List, [], ◌∷◌, length, get_or}
use Rattle.std.proofs.Common.{◌∙◌}
use Rattle.std.proofs.Math.Path.{ap}
use Rattle.std.proofs.Math.Decide.{ℕ_discrete}
use Rattle.std.proofs.Math.Numerals.{add-one}
use native.Mathlib.Omega.{arith}
use borrow.Author.Tests.{eq-eqb, ne_eqb}
use Rattle.matching.specs.Definitions.Nodes.{Node}
use Rattle.tables.specs.Definitions.Sizes.{node_size, node_rows}
use Rattle.tables.specs.Definitions.Tables.{node_from, row_number, nodes_from}

-- The nodes from row k on.
module _ (t : List ℕ) (k : ℕ) where
  pub nodes_end : k < node_rows → row_number t k ≡ 0 → nodes_from t k (node_rows - k) ≡ []
  unfolding nodes_from
  nodes_end h e = let m : node_rows - k ≡ suc (node_rows - (k + 1)) = omega arith in rw (m, eq-eqb (row_number t k) 0 e)

  pub nodes_next : k < node_rows → (row_number t k ≡ 0 → ⊥) → nodes_from t k (node_rows - k) ≡ node_from t (node_size * k) ∷ nodes_from t (k + 1) (node_rows - (k + 1))
  unfolding nodes_from
  nodes_next h e =
      let m : node_rows - k ≡ suc (node_rows - (k + 1)) = omega arith in
      ap (nodes_from t k) m ∙ rw (ne_eqb (row_number t k) 0 e, add-one k)

  pub nodes_full : node_rows ≤ k → nodes_from t k (node_rows - k) ≡ []
  unfolding nodes_from
  nodes_full h = let m : node_rows - k ≡ 0 = omega arith in rw m

-- The node at place j, and that its row has a number.
pub record RowAt (t : List ℕ) (A : List Node) (k j : ℕ) (d : Node) : Type 0 where
  pub node : get_or A j d ≡ node_from t (node_size * (k + j))
  pub numbered : row_number t (k + j) ≡ 0 → ⊥

first_row : (t : List ℕ) (A : List Node) (k : ℕ) (d : Node) → (row_number t k ≡ 0 → ⊥) → RowAt t (node_from t (node_size * k) ∷ A) k 0 d
first_row t A k d e =
    let z : k ≡ k + 0 = omega arith in
    record { node = ap (λ (i : ℕ). node_from t (node_size * i)) z; numbered = λ n. e (ap (row_number t) z ∙ n) }

later_row : (t : List ℕ) (v : Node) (A : List Node) (k i : ℕ) (d : Node) → RowAt t A (suc k) i d → RowAt t (v ∷ A) k (suc i) d
later_row t v A k i d r =
    let z : suc k + i ≡ k + suc i = omega arith in
    record { node = r.node ∙ ap (λ (j : ℕ). node_from t (node_size * j)) z; numbered = λ n. r.numbered (ap (row_number t) z ∙ n) }

pub rows_at : (t : List ℕ) (d : Node) (n k j : ℕ) → j < length (nodes_from t k n) → RowAt t (nodes_from t k n) k j d
unfolding nodes_from
rows_at t d zero k j h = absurd (omega arith)
rows_at t d (suc n) k j h = go (ℕ_discrete (row_number t k) 0) (rows_at t d n (suc k))
  where
    go : Dec (row_number t k ≡ 0) → ((i : ℕ) → i < length (nodes_from t (suc k) n) → RowAt t (nodes_from t (suc k) n) (suc k) i d)
        → RowAt t (nodes_from t k (suc n)) k j d
    go (yes e) ih = absurd (omega (arith, rw (eq-eqb (row_number t k) 0 e) at h))
    go (no e) ih = rw (ne_eqb (row_number t k) 0 e) (at j (rw (ne_eqb (row_number t k) 0 e) at h))
      where
        at : (j : ℕ) → j < suc (length (nodes_from t (suc k) n)) → RowAt t (node_from t (node_size * k) ∷ nodes_from t (suc k) n) k j d
        at zero g = first_row t (nodes_from t (suc k) n) k d e
        at (suc i) g = later_row t (node_from t (node_size * k)) (nodes_from t (suc k) n) k i d (ih i (omega arith))
