-- Laws of links and lists that the tables' laws do not have.
use Rattle.std.specs.Prelude.{ℕ, ◌≤◌, ◌≡◌, Bool, true, false, cond, List, [], ◌∷◌, eqb, length}
use Rattle.std.proofs.Math.Path.{ap}
use Rattle.std.proofs.Common.{arith}
use Rattle.matching.specs.Definitions.Lists.{All}
use Rattle.matching.specs.Definitions.Nodes.{Node, capacity_of}
use Rattle.matching.specs.Definitions.Pairs.{Pair, squared_distance, distance, pair, pairs}
use Rattle.matching.specs.Definitions.Links.{Link, pair_of}
use Rattle.matching.specs.Definitions.Join.{capacities, lesser, join}
use Rattle.matching.proofs.Laws.Lists.{all_map, all_map₂, all_true, all_at}
use Rattle.matching.proofs.Laws.Sorting.{sort, along, sorted_join}
use Rattle.matching.proofs.Laws.Along.{links_sound}
use Rattle.matching.proofs.Laws.Distance.{inside_reach, distance_fits}
use Rattle.matching.proofs.Theorems.Join.{join_count, join_sorted, Nodes, join_nodes}
use Rattle.tables.specs.Definitions.Sizes.{most, link_rows}
use Rattle.tables.specs.Definitions.Tables.{nodes_in, GoodNode, GoodNodes}
use Rattle.tables.proofs.Laws.Accepted.{room}
use Rattle.tables.specs.Laws.Lists.{GoodLink}

-- The links of two tables, accepted or not, have room in the list.
pub links_room : (a b : List ℕ) → length (join (nodes_in a) (nodes_in b)) ≤ link_rows
links_room a b = omega (arith, join_count (nodes_in a) (nodes_in b), room a, room b)

pub join_room : (A B : List Node) → GoodNodes A → GoodNodes B → length (join A B) ≤ link_rows
join_room A B g h = omega (arith, join_count A B, g.room, h.room)

-- A capacity is low.
pub capacity_low : (A : List Node) → All GoodNode A → (n : ℕ) → capacity_of A n ≤ most
unfolding capacity_of
capacity_low [] g n = omega arith
capacity_low (v ∷ A) g n = go (eqb v.number n) (capacity_low A g.1 n)
  where
    go : (t : Bool) → capacity_of A n ≤ most → cond t v.capacity (capacity_of A n) ≤ most
    go true h = g.0.most
    go false h = h

-- The links of good nodes fit their rows.
module _ (A B : List Node) (ga : GoodNodes A) (gb : GoodNodes B) where
  amounts_low : All (λ (l : Link). l.amount ≤ most) (join A B)
  unfolding sorted_join lesser capacities
  amounts_low = rw (join_sorted A B) (all_map (λ l s. omega (arith, s.high, capacity_low A ga.good l.a)) (along (sort (pairs A B)) (capacities A B))
      (links_sound (λ p. Unit {0}) (sort (pairs A B)) (capacities A B) (all_true (λ p. tt) (sort (pairs A B)))))

  pub join_good : All GoodLink (join A B)
  unfolding pair distance
  join_good = all_map₂ (λ l n h. fit l n h) (join A B) (join_nodes A B) amounts_low
    where
      fit : (l : Link) → Nodes A B (pair_of l) → l.amount ≤ most → GoodLink l
      fit l n h =
          let v = all_at GoodNode ga.good n.in_a in
          let w = all_at GoodNode gb.good n.in_b in
          let ea : l.a ≡ n.v.number = ap (λ (p : Pair). p.a) n.is_pair in
          let eb : l.b ≡ n.w.number = ap (λ (p : Pair). p.b) n.is_pair in
          let ed : l.distance ≡ squared_distance n.v.x n.v.y n.w.x n.w.y = ap (λ (p : Pair). p.distance) n.is_pair in
          let r = inside_reach n.v.x n.v.y n.w.x n.w.y (omega (arith, v.across), v.up) (omega (arith, w.across), w.up) in
          record {
            low = omega (arith, v.low);
            a_fits = omega (arith, v.high);
            b_fits = omega (arith, w.high);
            distance_fits = omega (arith, distance_fits n.v.x n.v.y n.w.x n.w.y r);
            amount_fits = omega arith;
          }
