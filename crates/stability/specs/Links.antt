-- Links in rows: where their nodes stand, and what they take of them.
use Rattle.std.specs.Prelude.{ℕ, ◌+◌, ◌≤◌, ◌<◌, ◌≡◌, List, [], ℤ, length, get_or, set}
use Rattle.matching.specs.declared.Spans.{Spans}
use Rattle.matching.specs.Definitions.Rows.{Sorts, spans_of, On, gap, key, link_in, links_in}
use Rattle.matching.specs.declared.Master.{Master}
use Rattle.matching.specs.declared.Master.TheVariants.{A as master_a, B as master_b}
use Rattle.matching.specs.Definitions.Nodes.{each}
use Rattle.matching.specs.Definitions.Pairs.{number_in, Before}
use Rattle.matching.specs.Definitions.Links.{Link, pair_of, used}
use Rattle.matching.specs.Definitions.Sizes.{set_rows}

-- A link's nodes stand in rows i and j of the ranges s, as far apart as it says.
pub record StandsOn (ns : List ℕ) (at : List (List ℤ)) (s : Spans) (l : Link) (i j : ℕ) : Type 0 where
  pub on : (m : Master) → On s m (each i j m)
  pub named : (m : Master) → get_or ns (each i j m) 0 ≡ number_in m (pair_of l)
  pub apart : l.distance ≡ gap at i at j

-- These are the ranges of one sort.
pub record Stands (ns : List ℕ) (at : List (List ℤ)) (S : Sorts) (l : Link) (i j : ℕ) : Type 0 where
  pub sort : ℕ
  pub one : sort ≤ 1
  pub rows : StandsOn ns at (spans_of S sort) l i j

-- The key of a link among those of its node of master m: its distance above the other node's number.
abbrev pub key_of : Master → Link → ℕ
key_of m l = key l.distance (each l.b l.a m)

-- What is taken of each row is within its capacity.
abbrev pub Within : List ℕ → List ℕ → Type 0
Within cs taken = (i : ℕ) → get_or taken i 0 ≤ get_or cs i 0

-- The amount m is taken of row i, and the key k kept there, which is none of an earlier link.
pub record Spent (cs : List ℕ) (m k i : ℕ) (taken last taken' last' : List ℕ) : Type 0 where
  pub some : 1 ≤ m
  pub fits : get_or taken i 0 + m ≤ get_or cs i 0
  pub later : get_or last i 0 ≤ k
  pub amount : taken' ≡ set taken i (get_or taken i 0 + m)
  pub kept : last' ≡ set last i k

-- Room for what is taken of a set's rows and for keys.
pub record Ready (cs taken last : List ℕ) : Type 0 where
  pub room : (length taken ≡ set_rows) × (length last ≡ set_rows)
  pub within : Within cs taken

-- A link is taken of its rows i and j.
pub record Taken (ns : List ℕ) (at : List (List ℤ)) (cs : List ℕ) (S : Sorts) (l : Link) (i j : ℕ) (taken last taken' last' : List ℕ) : Type 0 where
  pub stands : Stands ns at S l i j
  pub between : List ℕ
  pub kept : List ℕ
  pub first : Spent cs l.amount (key_of master_a l) i taken last between kept
  pub second : Spent cs l.amount (key_of master_b l) j between kept taken' last'

-- The first n links are taken of master m's rows, each of which keeps the key of its last link.
pub record Side (ns : List ℕ) (S : Sorts) (L : List (List ℕ)) (n : ℕ) (taken last : List ℕ) (m : Master) : Type 0 where
  pub sums : (t i : ℕ) → On (spans_of S t) m i → get_or taken i 0 ≡ used m (links_in L n) (get_or ns i 0)
  pub keys : (k : ℕ) → k < n → (t i : ℕ) → On (spans_of S t) m i → get_or ns i 0 ≡ number_in m (pair_of (link_in L k))
      → key_of m (link_in L k) ≤ get_or last i 0

-- Each of the first n links comes before the next.
abbrev pub Ordered : List (List ℕ) → ℕ → Type 0
Ordered L n = (k : ℕ) → k + 1 < n → Before (pair_of (link_in L k)) (pair_of (link_in L (k + 1)))

-- The first n links are taken. P has the rows where their nodes stand.
pub record Took (ns : List ℕ) (at : List (List ℤ)) (cs : List ℕ) (S : Sorts) (L P : List (List ℕ)) (n : ℕ) (taken last : List ℕ) : Type 0 where
  pub room : (length taken ≡ set_rows) × (length last ≡ set_rows)
  pub within : Within cs taken
  pub stands : (k : ℕ) → k < n → Stands ns at S (link_in L k) (get_or (get_or P k []) 0 0) (get_or (get_or P k []) 1 0)
  pub some : (k : ℕ) → k < n → 1 ≤ (link_in L k).amount
  pub side : (m : Master) → Side ns S L n taken last m
