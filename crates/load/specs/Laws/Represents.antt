-- Both tables in the set: their rows have their numbers, and represent them where their nodes are good.
use Prim.Native.Nat.{ℕ, zero, suc, ◌+◌, ◌-◌, ◌≤◌}
use Rattle.std.specs.Prelude.{◌≡◌, List, ◌++◌, ℤ, length, get_or}
use Rattle.std.proofs.Common.{sym, ◌∙◌, arith}
use Rattle.std.proofs.Math.Path.{ap}
use Rattle.matching.specs.declared.Spans.{Spans}
use Rattle.matching.specs.Definitions.Rows.{Sorts, range, size, spans_of, On, node_in, nodes_on, nodes_of, Fit, Represents}
use Rattle.matching.specs.Definitions.Lists.{All, Reordered}
use Rattle.matching.specs.declared.Master.{Master}
use Rattle.matching.specs.declared.Master.TheVariants.{A as master_a, B as master_b}
use Rattle.matching.specs.Definitions.Nodes.{each, Node, Unique, of_sort}
use Rattle.matching.specs.Definitions.Columns.{tabulate}
use Rattle.matching.specs.Definitions.Sizes.{set_rows}
use Rattle.matching.proofs.Laws.Lists.{all_map, all_at}
use Rattle.matching.proofs.Laws.Columns.{tabulate_get, same_place}
use Rattle.matching.proofs.Laws.Sorts.{all_of_sort}
use Rattle.matching.proofs.Laws.Sets.{on_in, on_length}
use Rattle.matching.proofs.Laws.Reordered.{reordered_all}
use Rattle.matching.proofs.Theorems.RowOrder.{reordered_unique}
use Rattle.tables.specs.Definitions.Tables.{nodes_in, Accepted, GoodNode, GoodNodes}
use Rattle.tables.proofs.Laws.Accepted.{room as few, nodes_good}
use Rattle.load.specs.Load.{rows_of, InSet, Loaded}
use Rattle.load.specs.Index.{Named}
use Rattle.load.specs.Laws.Parts.{parts_length, unique_left, unique_right, unique_across}
use Rattle.load.specs.Laws.Loaded.{rows_in, rows_named, all_parts}

module _ {a b ns : List ℕ} {at : List (List ℤ)} {cs : List ℕ} {S : Sorts} (l : InSet a b ns at cs S) where
  ends : (m : Master) → (range S.off m).to ≤ set_rows
  ends master_a = omega (arith, (l.spans 1).below)
  ends master_b = (l.spans 1).end

  counts : (m : Master) (u : ℕ) → u ≤ 1 → (rows_of (rows_in S m) u).to ≡ (rows_of (rows_in S m) u).from + length (of_sort u (nodes_in (each a b m)))
  counts m zero h = l.count 0 h m
  counts m (suc zero) h = l.count 1 h m
  counts m (suc (suc u)) h = absurd (omega arith)

  sorts : (m : Master) (u : ℕ) → u ≤ 1 → Reordered (of_sort u (nodes_in (each a b m))) (tabulate (node_in u ns at cs) (rows_of (rows_in S m) u).from (size (rows_of (rows_in S m) u)))
  unfolding nodes_on
  sorts m zero h = l.nodes 0 h m
  sorts m (suc zero) h = l.nodes 1 h m
  sorts m (suc (suc u)) h = absurd (omega arith)

  front : (m : Master) → (range S.on m).to ≤ set_rows
  front m = omega (arith, l.ahead m, ends m, l.count 1 (omega arith) m)

  -- A master's rows have the numbers of its table.
  pub rows_numbered : (m : Master) → Named (each a b m) (rows_in S m) ns
  rows_numbered m = rows_named (each a b m) ns at cs (rows_in S m) l.columns (front m) (ends m) (omega (arith, l.ahead m)) (counts m) (sorts m)

  -- Good nodes are represented by their rows.
  module _ (good : (m : Master) → GoodNodes (nodes_in (each a b m))) where
    all : (m : Master) → Reordered (nodes_in (each a b m)) (nodes_of S ns at cs m)
    unfolding nodes_of nodes_on
    all m = all_parts (each a b m) ns at cs (rows_in S m) l.columns (front m) (ends m) (omega (arith, l.ahead m)) (counts m) (sorts m) (all_map (λ v g. g.sort) (nodes_in (each a b m)) (good m).good)

    unique : (m : Master) → Unique (nodes_on 0 S.on ns at cs m ++ nodes_on 1 S.off ns at cs m)
    unique m = unfold nodes_of in reordered_unique (all m) (good m).unique

    module _ (u : ℕ) (low : u ≤ 1) where
      abbrev s : Spans
      s = spans_of S u

      single : (u : ℕ) → u ≤ 1 → (m : Master) → Unique (nodes_on u (spans_of S u) ns at cs m)
      single zero h m = unique_left (nodes_on 0 S.on ns at cs m) (nodes_on 1 S.off ns at cs m) (unique m)
      single (suc zero) h m = unique_right (nodes_on 0 S.on ns at cs m) (nodes_on 1 S.off ns at cs m) (unique m)
      single (suc (suc u)) h m = absurd (omega arith)

      node : (m : Master) (i : ℕ) (d : Node) → On s m i → get_or (nodes_on u s ns at cs m) (i - (range s m).from) d ≡ node_in u ns at cs i
      node m i d h =
          unfold nodes_on in
          let z : (range s m).from + (i - (range s m).from) ≡ i = omega (arith, h.0) in
          tabulate_get (node_in u ns at cs) (range s m).from (size (range s m)) (i - (range s m).from) d (omega (arith, h.0, h.1))
          ∙ ap (node_in u ns at cs) z

      distinct : (m : Master) (i k : ℕ) → On s m i → On s m k → get_or ns i 0 ≡ get_or ns k 0 → i ≡ k
      distinct m i k h g e =
          let d = node_in u ns at cs 0 in
          let j : i - (range s m).from ≡ k - (range s m).from =
          same_place (nodes_on u s ns at cs m) (i - (range s m).from) (k - (range s m).from) d (single u low m)
          (omega (arith, on_length u s ns at cs m, h.0, h.1)) (omega (arith, on_length u s ns at cs m, g.0, g.1))
          (ap (λ (v : Node). v.number) (node m i d h) ∙ e ∙ sym (ap (λ (v : Node). v.number) (node m k d g))) in
          omega (arith, h.0, g.0)

      fit_one : Fit ns at cs s
      fit_one = record {
        numbers = l.columns.numbers;
        positions = l.columns.positions;
        capacities = l.columns.capacities;
        spans = l.spans u;
        inside = λ m k h.
            let g = all_at GoodNode (reordered_all GoodNode (l.nodes u low m) (all_of_sort GoodNode u (nodes_in (each a b m)) (all_map (λ v g e. g) (nodes_in (each a b m)) (good m).good))) (on_in u s ns at cs m k h) in
            (g.across, g.up);
        distinct = distinct;
      }

    fit : (u : ℕ) → Fit ns at cs (spans_of S u)
    fit zero = fit_one 0 (omega arith)
    fit (suc u) = fit_one 1 (omega arith)

    pub rows_represent : Represents (nodes_in a) (nodes_in b) ns at cs S
    rows_represent = record {
      fits = record {
        fit = fit;
        most = λ m. omega (arith, l.count 0 (omega arith) m, l.count 1 (omega arith) m, parts_length (nodes_in (each a b m)), few (each a b m));
        ahead = l.ahead;
        apart = λ m i k h g. all_at (λ w. get_or ns i 0 ≡ w.number → ⊥) (all_at (λ v. All (λ w. v.number ≡ w.number → ⊥) (nodes_on 1 S.off ns at cs m))
            (unique_across (nodes_on 0 S.on ns at cs m) (nodes_on 1 S.off ns at cs m) (unique m)) (on_in 0 S.on ns at cs m i h)) (on_in 1 S.off ns at cs m k g);
      };
      nodes = each_all;
    }
      where
        each_all : (m : Master) → Reordered (each (nodes_in a) (nodes_in b) m) (nodes_of S ns at cs m)
        each_all master_a = all master_a
        each_all master_b = all master_b

module _ {a b ns : List ℕ} {at : List (List ℤ)} {cs : List ℕ} {S : Sorts} (l : Loaded a b ns at cs S) where
  pub loaded_named : (m : Master) → Named (each a b m) (rows_in S m) ns
  loaded_named = rows_numbered l.rows

  -- So are those of accepted tables.
  pub loaded_represents : Accepted a → Accepted b → Represents (nodes_in a) (nodes_in b) ns at cs S
  loaded_represents p q = rows_represent l.rows good
    where
      good : (m : Master) → GoodNodes (nodes_in (each a b m))
      good master_a = nodes_good a p
      good master_b = nodes_good b q
