-- The nodes of a table where they lie: their count, and the row of one by its number.
use Rattle.std.specs.Prelude.{ℕ, suc, ◌+◌, ◌*◌, ◌-◌, ◌<◌, ◌≤◌, ◌≡◌, refl, List, [], Option, Some, None, is_some, IfSome, length}
use Rattle.std.proofs.Common.{sym, ◌∙◌, ap, zero-add, arith}
use borrow.Author.Tests.{eq-eqb, ne_eqb}
use Rattle.matching.specs.Definitions.Nodes.{Node, has, place, capacity_of}
use Rattle.tables.specs.Definitions.Sizes.{node_size, node_rows}
use Rattle.tables.specs.Definitions.Tables.{node_from, row_number, nodes_from, nodes_in}
use Rattle.tables.specs.Laws.Nodes.{nodes_end, nodes_next, nodes_full}

-- r is the row of the first node with the number n; it is none where no node has it.
pub record RowOf (t : List ℕ) (n : ℕ) (r : Option ℕ) : Type 0 where
  pub known : has n (nodes_in t) ≡ is_some r
  pub within : IfSome r (λ k. k < node_rows)
  pub is : IfSome r (λ k. k ≡ place n (nodes_in t))
  pub capacity : IfSome r (λ k. (node_from t (node_size * k)).capacity ≡ capacity_of (nodes_in t) n)

-- The nodes from row k on.
abbrev later : List ℕ → ℕ → List Node
later t k = nodes_from t k (node_rows - k)

-- How many there are in all.
abbrev pub Counts : List ℕ → ℕ → Type 0
Counts t k = k + length (later t k) ≡ length (nodes_in t)

module _ (t : List ℕ) where
  pub counts_start : Counts t 0
  unfolding nodes_in
  counts_start = zero-add (length (nodes_from t 0 node_rows))

  module _ (k : ℕ) (c : Counts t k) where
    ended : later t k ≡ [] → k ≡ length (nodes_in t)
    ended e = omega (arith, c, ap length e)

    pub counts_end : k < node_rows → row_number t k ≡ 0 → k ≡ length (nodes_in t)
    counts_end h e = ended (nodes_end t k h e)

    pub counts_full : node_rows ≤ k → k ≡ length (nodes_in t)
    counts_full h = ended (nodes_full t k h)

    pub counts_more : k < node_rows → (row_number t k ≡ 0 → ⊥) → Counts t (k + 1)
    counts_more h e = omega (arith, c, ap length (nodes_next t k h e))

-- No row ahead of row k has the number n: what is asked of the nodes is asked of those from there on.
pub record Sought (t : List ℕ) (n k : ℕ) : Type 0 where
  pub has_it : has n (nodes_in t) ≡ has n (later t k)
  pub at : place n (nodes_in t) ≡ k + place n (later t k)
  pub capacity : capacity_of (nodes_in t) n ≡ capacity_of (later t k) n

module _ (t : List ℕ) (n : ℕ) where
  pub sought_start : Sought t n 0
  unfolding nodes_in
  sought_start = record { has_it = refl; at = sym (omega arith); capacity = refl }

  module _ (k : ℕ) (s : Sought t n k) where
    missing : later t k ≡ [] → RowOf t n None
    unfolding has
    missing e = record { known = s.has_it ∙ ap (has n) e; within = tt; is = tt; capacity = tt }

    pub sought_end : k < node_rows → row_number t k ≡ 0 → RowOf t n None
    sought_end h e = missing (nodes_end t k h e)

    pub sought_full : node_rows ≤ k → RowOf t n None
    sought_full h = missing (nodes_full t k h)

    module _ (h : k < node_rows) (e : row_number t k ≡ 0 → ⊥) where
      first_place : row_number t k ≡ n → place n (later t k) ≡ 0
      unfolding place node_from row_number
      first_place d = ap (place n) (nodes_next t k h e) ∙ rw (eq-eqb (row_number t k) n d)

      later-place : (row_number t k ≡ n → ⊥) → place n (later t k) ≡ suc (place n (later t (k + 1)))
      unfolding place node_from row_number
      later-place d = ap (place n) (nodes_next t k h e) ∙ rw (ne_eqb (row_number t k) n d)

      pub sought_here : row_number t k ≡ n → RowOf t n (Some k)
      unfolding has place capacity_of node_from row_number
      sought_here d = record {
        known = s.has_it ∙ ap (has n) (nodes_next t k h e) ∙ rw (eq-eqb (row_number t k) n d);
        within = h;
        is = omega (arith, s.at, first_place d);
        capacity = sym (s.capacity ∙ ap (λ (A : List Node). capacity_of A n) (nodes_next t k h e) ∙ rw (eq-eqb (row_number t k) n d));
      }

      pub sought_more : (row_number t k ≡ n → ⊥) → Sought t n (k + 1)
      unfolding has place capacity_of node_from row_number
      sought_more d = record {
        has_it = s.has_it ∙ ap (has n) (nodes_next t k h e) ∙ rw (ne_eqb (row_number t k) n d);
        at = omega (arith, s.at, later-place d);
        capacity = s.capacity ∙ ap (λ (A : List Node). capacity_of A n) (nodes_next t k h e) ∙ rw (ne_eqb (row_number t k) n d);
      }
