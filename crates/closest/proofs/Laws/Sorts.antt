-- The links of one sort after those of the other, and the join that both make. Assumes nothing.
use Prim.Native.Nat.{ℕ, suc, ◌+◌, ◌≤◌}
use mathlib.Core.Path.{◌≡◌, sym, ◌∙◌, ap}
use mathlib.Core.List.{List, [], ◌∷◌, ◌++◌}
use native.Mathlib.Omega.{arith}
use lib.IntN.{ℤ}
use lib.ListN.{length, take, drop}
use Rattle.std.specs.List.Sorted.{IsPermutation, IsSortedBy}
use Rattle.matching.specs.declared.Spans.{Spans}
use Rattle.matching.specs.Definitions.Rows.{Sorts, On, spans_of, nodes_of, link_in, links_in, Fits, Joined}
use Rattle.matching.specs.declared.Master.TheVariants.{A as master_a, B as master_b}
use Rattle.matching.specs.Definitions.Links.{Link}
use Rattle.matching.specs.Definitions.Join.{join}
use Rattle.matching.specs.Definitions.Columns.{tabulate}
use Rattle.matching.specs.Definitions.Sizes.{link_rows}
use Rattle.matching.proofs.Laws.Both.{of_length}
use Rattle.matching.proofs.Laws.Columns.{tabulate-length}
use Rattle.matching.proofs.Theorems.Join.{join_count, join_increasing}
use Rattle.matching.proofs.Theorems.Mutual.{put_length, puts}
use Rattle.matching.proofs.Theorems.Sorts.{rows_join}
use Rattle.closest.specs.Rows.{Rows, rest, Sound}
use Rattle.closest.specs.Order.{Table, sooner}
use Rattle.closest.specs.Chain.{whole, Room, Picked}
use Rattle.closest.proofs.Laws.Rest.{rest_none}
use Rattle.closest.proofs.Laws.Merge.{puts-puts}
use Rattle.closest.proofs.Laws.Order.{ordered_part}

puts-length : (K R : List Link) → length (puts K R) ≡ length K + length R
unfolding puts
puts-length [] R = omega arith
puts-length (k ∷ K) R = put_length k (puts K R) ∙ ap suc (puts-length K R) ∙ omega arith

links_length : (L : Table) (n : ℕ) → length (links_in L n) ≡ n
unfolding links_in
links_length L n = tabulate-length (link_in L) 0 n

-- Rows of a sort that has none in one of the masters have no link.
pub picked_none : (R : Rows) (left : List ℕ) (L : Table) (n : ℕ) → Sound R left → Room R left L n
    → ((i j : ℕ) → On R.spans master_a i → On R.spans master_b j → ⊥) → Picked R left L n L n
unfolding whole
picked_none R left L n v w h = record {
  most = omega (arith, w.most);
  room = w.size;
  all = rw (rest_none R left v (λ i j hi hj. absurd (h i j hi hj)));
}

-- How many links there are then.
picked_count : (R : Rows) (left : List ℕ) (L : Table) (k : ℕ) (K : Table) (n : ℕ) → Picked R left L k K n → n ≡ k + length (rest R left)
unfolding whole
picked_count R left L k K n p =
    sym (links_length K n)
    ∙ sym (puts-length (links_in K n) [] ∙ omega arith)
    ∙ ap length p.all
    ∙ puts-length (links_in L k) (rest R left)
    ∙ ap (λ (m : ℕ). m + length (rest R left)) (links_length L k)

module _ (ns : List ℕ) (at : List (List ℤ)) (cs : List ℕ) (S : Sorts) (f : Fits ns at cs S) where
  -- The rows of a sort, and the links to be taken of them.
  abbrev rows_in : Spans → Rows
  rows_in s = record { ns = ns; at = at; spans = s }

  abbrev links : ℕ → List Link
  links t = rest (rows_in (spans_of S t)) cs

  both : puts (links 0) (links 1) ≡ join (nodes_of S ns at cs master_a) (nodes_of S ns at cs master_b)
  unfolding rest
  both = rows_join S ns at cs f

  count : length (links 0) + length (links 1) ≤ link_rows
  count = omega (
    arith,
    puts-length (links 0) (links 1),
    ap length both,
    join_count (nodes_of S ns at cs master_a) (nodes_of S ns at cs master_b),
    of_length S ns at cs master_a,
    of_length S ns at cs master_b,
    f.most master_a,
    f.most master_b,
  )

  module _ (L : Table) (room : length L ≡ link_rows) where
    pub room_first : Room (rows_in (spans_of S 0)) cs L 0
    room_first = record { size = room; most = omega (arith, count) }

    module _ (K : Table) (n : ℕ) (p : Picked (rows_in (spans_of S 0)) cs L 0 K n) where
      pub room_second : Room (rows_in (spans_of S 1)) cs K n
      room_second = record { size = p.room; most = omega (arith, count, picked_count (rows_in (spans_of S 0)) cs L 0 K n p) }

      -- Both sorts are picked, and all links are put in order.
      pub joined : (J : Table) (m : ℕ) (T : Table) → Picked (rows_in (spans_of S 1)) cs K n J m → IsPermutation (take m J) T → IsSortedBy sooner T
          → Joined (nodes_of S ns at cs master_a) (nodes_of S ns at cs master_b) (T ++ drop m J) m
      unfolding whole links_in tabulate puts
      joined J m T q moved in_order = record { most = q.most; room = o.1 ∙ q.room; links = o.0 }
        where
          all : puts (links_in J m) [] ≡ join (nodes_of S ns at cs master_a) (nodes_of S ns at cs master_b)
          all = q.all ∙ sym (puts-puts (links_in K n) (links 1)) ∙ ap (λ (Z : List Link). puts Z (links 1)) p.all ∙ both

          o : (links_in (T ++ drop m J) m ≡ join (nodes_of S ns at cs master_a) (nodes_of S ns at cs master_b)) × (length (T ++ drop m J) ≡ length J)
          o = ordered_part J T m (join (nodes_of S ns at cs master_a) (nodes_of S ns at cs master_b)) (omega (arith, q.most, q.room)) (join_increasing (nodes_of S ns at cs master_a) (nodes_of S ns at cs master_b)) all moved in_order
