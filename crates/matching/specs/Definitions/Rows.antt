-- Nodes and links as code holds them: both masters in one set of rows, read by index, and a row for each link.
use Rattle.std.specs.Prelude.{ℕ, zero, suc, ◌+◌, ◌-◌, ◌*◌, ◌/◌, ◌<◌, ◌≤◌, ◌≡◌, List, [], ◌++◌, length, get_or, ℤ, pos}
use Rattle.matching.specs.declared.Range.{Range}
use Rattle.matching.specs.declared.Spans.{Spans}
use Rattle.matching.specs.declared.BySort.{BySort}
use Rattle.matching.specs.Definitions.Lists.{Reordered}
use Rattle.matching.specs.declared.Master.{Master}
use Rattle.matching.specs.Definitions.Nodes.{each, Node}
use Rattle.matching.specs.Definitions.Pairs.{squared_distance}
use Rattle.matching.specs.Definitions.Links.{Link}
use Rattle.matching.specs.Definitions.Join.{join}
use Rattle.matching.specs.Definitions.Columns.{tabulate, Inside}
use Rattle.matching.specs.Definitions.Sizes.{node_rows, link_rows, half, set_rows, block_rows, number_range}

-- The rows of each sort, of both masters.
abbrev pub Sorts : Type 0
Sorts = BySort Spans

-- A master's rows.
abbrev pub range : Spans → Master → Range
range s = each s.a s.b

-- How many they are.
abbrev pub size : Range → ℕ
size r = r.to - r.from

-- The rows of a sort: the on-curve ones, or the off-curve ones.
abbrev pub spans_of : Sorts → ℕ → Spans
spans_of S zero = S.on
spans_of S (suc t) = S.off

-- Row k is one of a master's.
abbrev pub On : Spans → Master → ℕ → Type 0
On s m k = ((range s m).from ≤ k) × (k < (range s m).to)

-- A's rows stand below half, B's from there on, and each master's begin with a block.
pub record Spanned (s : Spans) : Type 0 where
  pub order_a : s.a.from ≤ s.a.to
  pub order_b : s.b.from ≤ s.b.to
  pub most_a : s.a.to ≤ s.a.from + node_rows
  pub most_b : s.b.to ≤ s.b.from + node_rows
  pub below : s.a.to ≤ half
  pub above : half ≤ s.b.from
  pub end : s.b.to ≤ set_rows
  pub block_a : s.a.from ≡ s.a.from / block_rows * block_rows
  pub block_b : s.b.from ≡ s.b.from / block_rows * block_rows

-- A position is a row: how far across, and how far up.
abbrev pub across : List ℤ → ℤ
across p = get_or p 0 (pos 0)

abbrev pub upward : List ℤ → ℤ
upward p = get_or p 1 (pos 0)

-- The position in row k.
abbrev pub x_at : List (List ℤ) → ℕ → ℤ
x_at at k = across (get_or at k [])

abbrev pub y_at : List (List ℤ) → ℕ → ℤ
y_at at k = upward (get_or at k [])

-- Row k has a position, and it is inside.
pub record Placed (at : List (List ℤ)) (k : ℕ) : Type 0 where
  pub row : k < length at
  pub inside : Inside (x_at at k) (y_at at k)

-- The squared distance of the positions in two rows, of one set or of two.
unfoldable pub gap : List (List ℤ) → ℕ → List (List ℤ) → ℕ → ℕ
gap at i to k = squared_distance (x_at at i) (y_at at i) (x_at to k) (y_at to k)

-- The node that row k denotes, of a sort that goes by the range: its number, its position, and its capacity or what it has left.
abbrev pub node_in : ℕ → List ℕ → List (List ℤ) → List ℕ → ℕ → Node
node_in t ns at cs k = record { number = get_or ns k 0; x = x_at at k; y = y_at at k; capacity = get_or cs k 0; sort = t }

-- The nodes of a master that are of the sort t,
unfoldable pub nodes_on : ℕ → Spans → List ℕ → List (List ℤ) → List ℕ → Master → List Node
unfolding tabulate
nodes_on t s ns at cs m = tabulate (node_in t ns at cs) (range s m).from (size (range s m))

-- and all of them.
unfoldable pub nodes_of : Sorts → List ℕ → List (List ℤ) → List ℕ → Master → List Node
unfolding nodes_on
nodes_of S ns at cs m = nodes_on 0 S.on ns at cs m ++ nodes_on 1 S.off ns at cs m

-- A row as a link: A number, B number, distance, amount.
abbrev pub link_of : List ℕ → Link
link_of r = record { a = get_or r 0 0; b = get_or r 1 0; distance = get_or r 2 0; amount = get_or r 3 0 }

abbrev pub link_in : List (List ℕ) → ℕ → Link
link_in L i = link_of (get_or L i [])

-- The first n links of some rows.
unfoldable pub links_in : List (List ℕ) → ℕ → List Link
unfolding tabulate
links_in L n = tabulate (link_in L) 0 n

-- The rows of a sort on which code works: every position is inside, and no number stands twice in a master.
pub record Fit (ns : List ℕ) (at : List (List ℤ)) (cs : List ℕ) (s : Spans) : Type 0 where
  pub numbers : length ns ≡ set_rows
  pub positions : length at ≡ set_rows
  pub capacities : length cs ≡ set_rows
  pub spans : Spanned s
  pub inside : (m : Master) (k : ℕ) → On s m k → Inside (x_at at k) (y_at at k)
  pub distinct : (m : Master) (i k : ℕ) → On s m i → On s m k → get_or ns i 0 ≡ get_or ns k 0 → i ≡ k

-- A set of rows on which code works: a master's on-curve rows stand ahead of its off-curve ones, and no number stands in both.
pub record Fits (ns : List ℕ) (at : List (List ℤ)) (cs : List ℕ) (S : Sorts) : Type 0 where
  pub fit : (t : ℕ) → Fit ns at cs (spans_of S t)
  pub most : (m : Master) → size (range S.on m) + size (range S.off m) ≤ node_rows
  pub ahead : (m : Master) → (range S.on m).to ≤ (range S.off m).from
  pub apart : (m : Master) (i k : ℕ) → On S.on m i → On S.off m k → get_or ns i 0 ≡ get_or ns k 0 → ⊥

-- The set's rows are the nodes of both masters, each master's in some order.
pub record Represents (A B : List Node) (ns : List ℕ) (at : List (List ℤ)) (cs : List ℕ) (S : Sorts) : Type 0 where
  pub fits : Fits ns at cs S
  pub nodes : (m : Master) → Reordered (each A B m) (nodes_of S ns at cs m)

-- The first n of the link rows are the join of two masters.
pub record Joined (A B : List Node) (L : List (List ℕ)) (n : ℕ) : Type 0 where
  pub most : n ≤ link_rows
  pub room : length L ≡ link_rows
  pub links : links_in L n ≡ join A B

-- A distance above a number, as one key.
abbrev pub key : ℕ → ℕ → ℕ
key d n = d * number_range + n
