-- Laws of nodes and links in rows.
use Rattle.std.specs.Prelude.{ℕ, zero, suc, ◌+◌, ◌≤◌, ◌<◌, ◌≡◌, ℤ, pos, negsuc, nat_abs, length, set}
use Rattle.std.proofs.Common.{ap, zero-add, add-one, arith, get_or-set_same, get_or-set_other, to_z, of_z, SFits, to_z-of_z}
use mathlib.Core.List.{List, [], ◌∷◌, ◌++◌, Memᴰ}
use Rattle.std.proofs.Math.Decide.{ℕ_discrete}
use Rattle.std.specs.Int.{w16}
use Rattle.matching.specs.declared.Spans.{Spans}
use Rattle.matching.specs.Definitions.Lists.{All}
use Rattle.matching.specs.declared.Master.{Master}
use Rattle.matching.specs.Definitions.Nodes.{Node, Unique}
use Rattle.matching.specs.Definitions.Links.{Link}
use Rattle.matching.specs.Definitions.Columns.{tabulate, edge, Inside}
use Rattle.matching.specs.Definitions.Rows.{range, size, On, x_at, y_at, gap, node_in, nodes_on, link_of, link_in, links_in, Fit}
use Rattle.matching.proofs.Laws.Columns.{tabulate-length, tabulate_all, tabulate_cong, tabulate_snoc}
use Rattle.matching.proofs.Laws.Distance.{distance_swap, inside_reach, distance_fits}

-- Two bytes hold a position inside, and it is read back from them.
inside_fits : (z : ℤ) → nat_abs z ≤ edge → SFits w16 z
inside_fits (pos n) h = record { sfits = omega arith }
inside_fits (negsuc n) h = record { sfits = omega arith }

pub inside_back : (z : ℤ) → nat_abs z ≤ edge → to_z w16 (of_z w16 z) ≡ z
inside_back z h = to_z-of_z (inside_fits z h)

-- The nodes of a master: how many, and each by its row.
module _ (t : ℕ) (s : Spans) (ns : List ℕ) (at : List (List ℤ)) (cs : List ℕ) (m : Master) where
  pub on_length : length (nodes_on t s ns at cs m) ≡ size (range s m)
  unfolding nodes_on
  on_length = tabulate-length (node_in t ns at cs) (range s m).from (size (range s m))

-- A row written is there, and the others stay.
pub written_at : (L : List (List ℕ)) (j : ℕ) (x : List ℕ) → j < length L → link_in (set L j x) j ≡ link_of x
written_at L j x h = ap link_of (get_or-set_same L j x [] h)

pub written_other : (L : List (List ℕ)) (j : ℕ) (x : List ℕ) (k : ℕ) → (k ≡ j → ⊥) → link_in (set L j x) k ≡ link_in L k
written_other L j x k h = ap link_of (get_or-set_other L j k x [] h)

-- One link more.
pub link_more : (L : List (List ℕ)) (n : ℕ) (x : List ℕ) → n < length L → links_in (set L n x) (n + 1) ≡ links_in L n ++ (link_of x ∷ [])
unfolding links_in
link_more L n x h =
    rw (add-one n, tabulate_snoc (link_in (set L n x)) 0 n, zero-add n, written_at L n x h)
    (ap (λ K. K ++ (link_of x ∷ [])) (tabulate_cong (link_in (set L n x)) (link_in L) 0 n (λ i z l. written_other L n x i (λ e. omega arith))))

-- What holds of each row of a master holds of each of its nodes, and the node of a row is one of them.
tabulate_in : {X : Type 0} (f : ℕ → X) (k n i : ℕ) → k ≤ i → i < k + n → Memᴰ (f i) (tabulate f k n)
unfolding tabulate
tabulate_in f k zero i l h = absurd (omega arith)
tabulate_in f k (suc n) i l h = go (ℕ_discrete i k) (λ g. tabulate_in f (suc k) n i g (omega arith))
  where
    go : Dec (i ≡ k) → (suc k ≤ i → Memᴰ (f i) (tabulate f (suc k) n)) → Memᴰ (f i) (f k ∷ tabulate f (suc k) n)
    go (yes e) rest = Memᴰ.head (ap f e)
    go (no e) rest = Memᴰ.tail (rest (omega arith))

pub tabulate_unique : (f : ℕ → Node) (k n : ℕ) → ((i j : ℕ) → k ≤ i → i < k + n → k ≤ j → j < k + n → (f i).number ≡ (f j).number → i ≡ j) → Unique (tabulate f k n)
unfolding tabulate
tabulate_unique f k zero h = tt
tabulate_unique f k (suc n) h = (
  tabulate_all (λ w. (f k).number ≡ w.number → ⊥) f (suc k) n (λ i l g e. omega (arith, h k i (omega arith) (omega arith) (omega arith) (omega arith) e)),
  tabulate_unique f (suc k) n (λ i j a b c d e. h i j (omega arith) (omega arith) (omega arith) (omega arith) e),
)

module _ (t : ℕ) (s : Spans) (ns : List ℕ) (at : List (List ℤ)) (cs : List ℕ) (m : Master) where
  pub on_all : (P : Node → Type 0) → ((k : ℕ) → On s m k → P (node_in t ns at cs k)) → All P (nodes_on t s ns at cs m)
  unfolding nodes_on
  on_all P h = tabulate_all P (node_in t ns at cs) (range s m).from (size (range s m)) (λ k l g. h k (l, omega arith))

  pub on_in : (k : ℕ) → On s m k → Memᴰ (node_in t ns at cs k) (nodes_on t s ns at cs m)
  unfolding nodes_on
  on_in k h = tabulate_in (node_in t ns at cs) (range s m).from (size (range s m)) k h.0 (omega arith)

  pub on_unique : Fit ns at cs s → Unique (nodes_on t s ns at cs m)
  unfolding nodes_on
  on_unique f =
      tabulate_unique (node_in t ns at cs) (range s m).from (size (range s m)) (λ i j a b c d. f.distinct m i j (a, omega arith) (c, omega arith))

-- What holds of each row of links holds of each link.
pub in_all : (P : Link → Type 0) (L : List (List ℕ)) (n : ℕ) → ((k : ℕ) → k < n → P (link_in L k)) → All P (links_in L n)
unfolding links_in
in_all P L n h = tabulate_all P (link_in L) 0 n (λ k l g. h k (omega arith))

-- Distances are the same from either end, and below the greatest number of four bytes.
pub gap_swap : (at : List (List ℤ)) (i : ℕ) (to : List (List ℤ)) (k : ℕ) → gap at i to k ≡ gap to k at i
unfolding gap
gap_swap at i to k = distance_swap (x_at at i) (y_at at i) (x_at to k) (y_at to k)

pub gap_fits : (at : List (List ℤ)) (i : ℕ) (to : List (List ℤ)) (k : ℕ) → Inside (x_at at i) (y_at at i) → Inside (x_at to k) (y_at to k) → gap at i to k < 4294967295
unfolding gap
gap_fits at i to k p q = distance_fits (x_at at i) (y_at at i) (x_at to k) (y_at to k) (inside_reach (x_at at i) (y_at at i) (x_at to k) (y_at to k) p q)
