-- Links: pairs with an amount, and what a list of them says.
use Rattle.std.specs.Prelude.{ℕ, suc, Bool, cond, ◌&&◌, List, [], ◌∷◌, eqb}
use Rattle.matching.specs.Definitions.Lists.{All, sum_over}
use Rattle.matching.specs.declared.Master.{Master}
use Rattle.matching.specs.Definitions.Nodes.{Node, has}
use Rattle.matching.specs.Definitions.Pairs.{Pair, number_in, Before}

pub record Link : Type 0 where
  pub a : ℕ
  pub b : ℕ
  pub distance : ℕ
  pub amount : ℕ

abbrev pub link : Pair → ℕ → Link
link p m = record { a = p.a; b = p.b; distance = p.distance; amount = m }

abbrev pub pair_of : Link → Pair
pair_of l = record { distance = l.distance; a = l.a; b = l.b }

-- A link with its two numbers exchanged.
abbrev pub exchange : Link → Link
exchange l = record { a = l.b; b = l.a; distance = l.distance; amount = l.amount }

-- The amount of the pair of A's node a and B's node b, 0 without a link.
unfoldable pub amount_of : List Link → ℕ → ℕ → ℕ
amount_of [] a b = 0
amount_of (l ∷ K) a b = cond (eqb l.a a && eqb l.b b) l.amount (amount_of K a b)

-- What the links take of a master's node n.
unfoldable pub used : Master → List Link → ℕ → ℕ
unfolding sum_over
used s K n = sum_over (λ (l : Link). cond (eqb (number_in s (pair_of l)) n) l.amount 0) K

-- Each link comes before all later ones in pair order.
abbrev pub Increasing : List Link → Type 0
Increasing [] = Unit {0}
Increasing (l ∷ K) = All (λ (k : Link). Before (pair_of l) (pair_of k)) K × Increasing K

-- The links of these nodes of A, in their order.
unfoldable pub links_for : List Node → List Link → List Link
unfolding has
links_for A [] = []
links_for A (l ∷ K) = cond (has l.a A) (l ∷ links_for A K) (links_for A K)

abbrev pub same_link : Link → Link → Bool
same_link k l = eqb k.a l.a && eqb k.b l.b && eqb k.distance l.distance && eqb k.amount l.amount

-- How many leading links two lists have in common: document 01's 'rows kept'.
unfoldable pub common : List Link → List Link → ℕ
common [] J = 0
common (k ∷ K) [] = 0
common (k ∷ K) (l ∷ J) = cond (same_link k l) (suc (common K J)) 0
