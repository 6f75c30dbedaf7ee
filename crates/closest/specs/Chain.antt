-- The chain of nearest neighbours, and the picks made along it.
use Rattle.std.specs.Prelude.{ℕ, ◌+◌, ◌*◌, ◌-◌, ◌<◌, ◌≤◌, min, ◌≡◌, cond, Option, None, Some, List, [], ◌∷◌, ltb, length, get_or, set, ℤ}
use Rattle.matching.specs.declared.Range.{Range}
use Rattle.matching.specs.declared.Master.TheVariants.{A as master_a, B as master_b}
use Rattle.matching.specs.Definitions.Pairs.{Before}
use Rattle.matching.specs.Definitions.Links.{Link}
use Rattle.matching.specs.Definitions.Sizes.{half, link_rows}
use Rattle.matching.specs.Definitions.Rows.{On, Placed, links_in}
use Rattle.matching.proofs.Theorems.Mutual.{puts}
use Rattle.closest.specs.declared.chain.Pick.{Pick}
use Rattle.closest.specs.declared.chain.Move.{Move}
use Rattle.closest.specs.declared.chain.Move.TheVariants.{Push, Take}
use Rattle.closest.specs.declared.nearest.Near.{Near}
use Rattle.closest.specs.Sizes.{chain_rows, far_key}
use Rattle.closest.specs.Rows.{Rows, Held, Faces, far, between, rest, Sound}
use Rattle.closest.specs.declared.live.Lists.{Lists}
use Rattle.closest.specs.Live.{row_at, spot_of}
use Rattle.closest.specs.Blocks.{start, Block, end_of, least_of, Kept, Fenced}
use Rattle.closest.specs.Nearest.{Keyed, Nearest, Chosen}
use Rattle.closest.specs.Order.{Table}

module _ (R : Rows) (left chain : List ℕ) (n : ℕ) where
  -- The row at height h.
  abbrev pub at : ℕ → ℕ
  at h = get_or chain h 0

  -- A chain of n rows: each has something left and the next as its nearest; the pairs along it come ever earlier.
  -- So no row stands in it twice, and 1,153 places are room enough.
  pub record Chain : Type 0 where
    pub room : length chain ≡ chain_rows
    pub held : (h : ℕ) → h < n → Held R (at h)
    pub alive : (h : ℕ) → h < n → 1 ≤ get_or left (at h) 0
    pub facing : (h : ℕ) → h + 1 < n → Faces R (at h) (at (h + 1))
    pub nearest : (h : ℕ) → h + 1 < n → Nearest R left (at h) (at (h + 1))
    pub falls : (h k : ℕ) → h < k → k + 1 < n → Before (between R (at k) (at (k + 1))) (between R (at h) (at (h + 1)))

  -- Row w may be pushed: it has something left, and is the nearest of the top but not the row below it.
  pub record Pushed (w : ℕ) : Type 0 where
    pub held : Held R w
    pub alive : 1 ≤ get_or left w 0
    pub next : (h : ℕ) → n ≡ h + 1 → Chosen R left (at h) w (far R (at h) w)
    pub new : (h : ℕ) → n ≡ h + 2 → w ≡ at h → ⊥

  -- Rows i and j are each other's nearest, d apart, and no row further down the chain is one of them.
  pub record Mutually (i j d : ℕ) : Type 0 where
    pub deep : 2 ≤ n
    pub onto_j : Chosen R left i j d
    pub onto_i : Chosen R left j i d
    pub not_i : (h : ℕ) → h + 2 < n → at h ≡ i → ⊥
    pub not_j : (h : ℕ) → h + 2 < n → at h ≡ j → ⊥

  -- What a decision says: nothing is left to take, or a row may be pushed, or A's row and B's row taken.
  abbrev pub Decided : Option Move → Type 0
  Decided None = rest R left ≡ []
  Decided (Some (Push w)) = Pushed w
  Decided (Some (Take p)) = Mutually p.a p.b p.distance × (p.a < half)

-- An empty chain begins with row w: the first that a block of the range lists.
pub record Opens (listed E : List (List ℕ)) (r : Range) (w : ℕ) : Type 0 where
  pub number : ℕ
  pub block : Block r number
  pub some : start number < end_of E number
  pub is : w ≡ row_at listed (start number)

-- How an empty chain begins, or that the range lists no row.
abbrev pub Begun : List (List ℕ) → List (List ℕ) → Range → Option ℕ → Type 0
Begun listed E r None = (b : ℕ) → Block r b → end_of E b ≤ start b
Begun listed E r (Some w) = Opens listed E r w

-- The place of the row below the top of a chain of n rows.
abbrev pub below : List ℕ → Lists → ℕ → ℕ
below chain Q n = spot_of Q (get_or chain (n - 2) 0)

-- On a chain of n rows the row below the top is listed, if there is one.
pub record Seeding (chain : List ℕ) (Q : Lists) (n : ℕ) : Type 0 where
  pub room : n ≤ length chain
  pub row : 2 ≤ n → get_or chain (n - 2) 0 < length Q.spot
  pub place : 2 ≤ n → below chain Q n < length Q.listed
  pub placed : 2 ≤ n → Placed Q.points (below chain Q n)

-- The nearest before a search from p: the row below the top of a chain of n rows, or none.
pub data Seeded (p : List ℤ) (chain : List ℕ) (Q : Lists) (n : ℕ) (s : Near) : Type 0 where
  none : n < 2 → s.key ≡ far_key → Seeded p chain Q n s
  under : 2 ≤ n → s.at ≡ below chain Q n → Keyed p Q.listed Q.points s.at s.key → Seeded p chain Q n s

-- The pair of two rows, A's first.
unfoldable pub sides : ℕ → ℕ → ℕ → Pick
sides t w d = cond (ltb t half) (record { a = t; b = w; distance = d }) (record { a = w; b = t; distance = d })

-- A chain of n rows after a pair is taken: r of them are kept, not the top, and the row below it only where it has something left;
-- or the top, which has something left, begins a new chain.
pub data Trimmed (left chain : List ℕ) (n : ℕ) (chain' : List ℕ) (r : ℕ) : Type 0 where
  kept : chain' ≡ chain → r < n → ((h : ℕ) → h < r → n ≤ h + 2 → 1 ≤ get_or left (get_or chain h 0) 0) → Trimmed left chain n chain' r
  anew : chain' ≡ set chain 0 (get_or chain (n - 1) 0) → r ≡ 1 → 1 ≤ get_or left (get_or chain (n - 1) 0) 0 → Trimmed left chain n chain' r

-- The lesser of what the two rows of a pair have left,
abbrev pub amount : List ℕ → Pick → ℕ
amount left p = min (get_or left p.a 0) (get_or left p.b 0)

-- and what is left where both lose m.
abbrev pub lose : List ℕ → Pick → ℕ → List ℕ
lose left p m = set (set left p.a (get_or left p.a 0 - m)) p.b (get_or left p.b 0 - m)

module _ (R : Rows) where
  -- Both rows of a pair have something left.
  pub record Takes (left : List ℕ) (p : Pick) : Type 0 where
    pub on_a : On R.spans master_a p.a
    pub on_b : On R.spans master_b p.b
    pub some_a : 1 ≤ get_or left p.a 0
    pub some_b : 1 ≤ get_or left p.b 0

  -- The row of their link.
  abbrev pub link_row : Pick → ℕ → List ℕ
  link_row p m = get_or R.ns p.a 0 ∷ get_or R.ns p.b 0 ∷ p.distance ∷ m ∷ []

  -- A pair is taken: its rows lose the lesser of what they have left, the lists are kept, and row n of the links says so.
  pub record Taken (left : List ℕ) (E : List (List ℕ)) (p : Pick) (n : ℕ) (L : Table) (left' : List ℕ) (Q' : Lists) (E' : List (List ℕ)) (L' : Table) : Type 0 where
    pub lefts : left' ≡ lose left p (amount left p)
    pub kept : Kept R left' Q' E'
    pub leasts : (b : ℕ) → least_of E' b ≡ least_of E b
    pub links : L' ≡ set L n (link_row p (amount left p))

  -- The links of the join: those taken, each put in at its place among those still to be taken.
  unfoldable pub whole : List ℕ → Table → ℕ → List Link
  unfolding rest links_in puts
  whole left L n = puts (links_in L n) (rest R left)

  -- The rows, the blocks' lists and boxes, and the chain.
  pub record Ready (left : List ℕ) (Q : Lists) (E : List (List ℕ)) (X : List (List ℤ)) (chain : List ℕ) (depth : ℕ) : Type 0 where
    pub sound : Sound R left
    pub kept : Kept R left Q E
    pub fenced : Fenced R E X
    pub path : Chain R left chain depth

  -- There is room for the links to be taken after the first n.
  pub record Room (left : List ℕ) (L : Table) (n : ℕ) : Type 0 where
    pub size : length L ≡ link_rows
    pub most : n + length (rest R left) ≤ link_rows

  -- The state of a run.
  pub record Good (left : List ℕ) (Q : Lists) (E : List (List ℕ)) (X : List (List ℤ)) (chain : List ℕ) (L : Table) (depth n : ℕ) : Type 0 where
    pub ready : Ready left Q E X chain depth
    pub room : Room left L n

  -- What falls with each step: the links to come, then the room on the chain.
  abbrev pub to_go : List ℕ → ℕ → ℕ
  to_go left depth = length (rest R left) * (chain_rows + 2) + (chain_rows - depth)

  -- What a step does.
  pub record Stepped (X : List (List ℤ)) (left : List ℕ) (L : Table) (depth n : ℕ) (left' : List ℕ) (Q' : Lists) (E' : List (List ℕ)) (chain' : List ℕ) (L' : Table) (depth' n' : ℕ) : Type 0 where
    pub good : Good left' Q' E' X chain' L' depth' n'
    pub same : whole left' L' n' ≡ whole left L n
    pub falls : to_go left' depth' < to_go left depth

  -- All pairs are taken: the n links that there are then, put in order, are the first k put in among those that were to be taken.
  pub record Picked (left : List ℕ) (L : Table) (k : ℕ) (L' : Table) (n : ℕ) : Type 0 where
    pub most : n ≤ link_rows
    pub room : length L' ≡ link_rows
    pub all : puts (links_in L' n) [] ≡ whole left L k
