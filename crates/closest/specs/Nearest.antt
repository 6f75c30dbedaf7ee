-- The row nearest to a position among those that are listed.
use Rattle.std.specs.Prelude.{ℕ, ◌<◌, ◌≤◌, cond, ◌≡◌, List, [], length, get_or, ltb, eqb, ℤ, Option, None, Some, unwrap_or}
use Rattle.matching.specs.declared.Range.{Range}
use Rattle.matching.specs.declared.Spans.{Spans}
use Rattle.matching.specs.Definitions.Pairs.{squared_distance}
use Rattle.matching.specs.Definitions.Sizes.{half, set_blocks, number_range}
use Rattle.matching.specs.Definitions.Rows.{across, upward, Placed, key}
use Rattle.matching.proofs.Laws.Earliest.{Leq}
use Rattle.closest.specs.declared.nearest.Near.{Near}
use Rattle.closest.specs.Sizes.{far_key}
use Rattle.closest.specs.Rows.{Rows, far, Faces, between}
use Rattle.closest.specs.Live.{number_at}
use Rattle.closest.specs.Blocks.{start, Block, end_of, Boxed}

-- s, or place k where its key c is less.
unfoldable pub nearer : Near → ℕ → ℕ → Near
nearer s c k = cond (ltb c s.key) (record { key = c; at = k }) s

-- The nearest so far where there may be none: then a key above every key stands for it,
abbrev pub seeded : Option Near → Near
seeded n = unwrap_or n (record { key = far_key; at = 0 })

-- and a search that ends with that key found none.
unfoldable pub met : Near → Option Near
met r = cond (eqb r.key far_key) None (Some r)

-- The squared distance of two positions.
unfoldable pub apart : List ℤ → List ℤ → ℕ
apart p q = squared_distance (across p) (upward p) (across q) (upward q)

-- From place first to place end rows are listed.
pub record Listing (listed : List (List ℕ)) (points : List (List ℤ)) (first end : ℕ) : Type 0 where
  pub low : first ≤ end
  pub room : end ≤ length listed
  pub inside : (k : ℕ) → first ≤ k → k < end → Placed points k

-- The places that block b lists are within its box.
pub record Guarded (listed : List (List ℕ)) (points : List (List ℤ)) (E : List (List ℕ)) (X : List (List ℤ)) (b : ℕ) : Type 0 where
  pub row : b < length E
  pub box : b < length X
  pub small : b < set_blocks
  pub listing : Listing listed points (start b) (end_of E b)
  pub boxed : Boxed (number_at listed) points E X b (start b) (end_of E b)

-- So it is with each block of the range.
abbrev pub Guards : List (List ℕ) → List (List ℤ) → List (List ℕ) → List (List ℤ) → Range → Type 0
Guards listed points E X r = (b : ℕ) → Block r b → Guarded listed points E X b

module _ (p : List ℤ) (listed : List (List ℕ)) (points : List (List ℤ)) where
  -- The key of place k as seen from p.
  abbrev pub seen : ℕ → ℕ
  seen k = key (apart p (get_or points k [])) (number_at listed k)

  -- c is that key.
  pub record Keyed (k c : ℕ) : Type 0 where
    pub is : c ≡ seen k
    pub small : number_at listed k < number_range

  -- The nearest r is s, or one of the places from first to end.
  pub data Came (first end : ℕ) (s r : Near) : Type 0 where
    kept : r ≡ s → Came first end s r
    found : first ≤ r.at → r.at < end → Keyed r.at r.key → Came first end s r

  -- Of s and the places from first to end, r has the least key.
  pub record Sought (first end : ℕ) (s r : Near) : Type 0 where
    pub less : r.key ≤ s.key
    pub least : (k : ℕ) → first ≤ k → k < end → r.key ≤ seen k
    pub came : Came first end s r

  module _ (E : List (List ℕ)) (f : Range) where
    -- The nearest r is s, or a place that a block of the range lists.
    pub data From (s r : Near) : Type 0 where
      seed : r ≡ s → From s r
      block : (b : ℕ) → Block f b → start b ≤ r.at → r.at < end_of E b → Keyed r.at r.key → From s r

    -- Of s and the places that the range's blocks ahead of block n list, r has the least key.
    pub record Visited (n : ℕ) (s r : Near) : Type 0 where
      pub less : r.key ≤ s.key
      pub least : (b : ℕ) → Block f b → b < n → (k : ℕ) → start b ≤ k → k < end_of E b → r.key ≤ seen k
      pub came : From s r

    -- Of s and the places that the range's blocks list.
    abbrev pub Scanned : Near → Near → Type 0
    Scanned = Visited set_blocks

-- What is known of t's partner r, searched for from n on: a row of A is seen from B's and the other way round.
pub record Partner (at : List (List ℤ)) (listed : List (List ℕ)) (points : List (List ℤ)) (E : List (List ℕ)) (s : Spans) (t : ℕ) (n r : Option Near) : Type 0 where
  pub best : Near
  pub onto_b : t < half → Scanned (get_or at t []) listed points E s.b (seeded n) best
  pub onto_a : half ≤ t → Scanned (get_or at t []) listed points E s.a (seeded n) best
  pub is : r ≡ met best

module _ (R : Rows) (left : List ℕ) where
  -- No row that faces t and has something left makes an earlier pair with t than w does.
  abbrev pub Nearest : ℕ → ℕ → Type 0
  Nearest t w = (k : ℕ) → Faces R t k → 1 ≤ get_or left k 0 → Leq (between R t w) (between R t k)

  -- Row w faces t and has something left, d away, and none is nearer.
  pub record Chosen (t w d : ℕ) : Type 0 where
    pub faces : Faces R t w
    pub alive : 1 ≤ get_or left w 0
    pub is_d : d ≡ far R t w
    pub nearest : Nearest t w
