-- The lists of the rows that have something left: the rows from a first to an end are listed in the places from there on.
use Rattle.std.specs.Prelude.{ℕ, ◌+◌, ◌-◌, ◌<◌, ◌≤◌, ◌≡◌, List, [], ◌∷◌, length, get_or, set, ℤ}
use Rattle.matching.specs.Definitions.Sizes.{set_rows}
use Rattle.closest.specs.declared.live.Lists.{Lists}

-- The number at a place,
abbrev pub number_at : List (List ℕ) → ℕ → ℕ
number_at listed k = get_or (get_or listed k []) 0 0

-- the row there,
abbrev pub row_at : List (List ℕ) → ℕ → ℕ
row_at listed k = get_or (get_or listed k []) 1 0

-- and the place of a row.
abbrev pub spot_of : Lists → ℕ → ℕ
spot_of Q r = get_or Q.spot r 0

-- Place k, and row k, are as they were.
pub record Same (Q Q' : Lists) (k : ℕ) : Type 0 where
  pub listed : get_or Q'.listed k [] ≡ get_or Q.listed k []
  pub point : get_or Q'.points k [] ≡ get_or Q.points k []
  pub spot : spot_of Q' k ≡ spot_of Q k

-- The same outside of the places and rows from first to end.
abbrev pub Elsewhere : ℕ → ℕ → Lists → Lists → Type 0
Elsewhere first end Q Q' = (k : ℕ) → (first ≤ k → k < end → ⊥) → Same Q Q' k

-- A row may be taken off the list that ends at place e.
pub record May (Q : Lists) (row e : ℕ) : Type 0 where
  pub low : row < set_rows
  pub place : spot_of Q row < set_rows
  pub some : 1 ≤ e
  pub room : e ≤ set_rows
  pub last : row_at Q.listed (e - 1) < set_rows

module _ (ns : List ℕ) (at : List (List ℤ)) where
  -- All columns have full length.
  pub record Sized (Q : Lists) : Type 0 where
    pub numbers : length ns ≡ set_rows
    pub positions : length at ≡ set_rows
    pub listed : length Q.listed ≡ set_rows
    pub points : length Q.points ≡ set_rows
    pub spots : length Q.spot ≡ set_rows

  -- Row r listed at place w.
  abbrev pub entered : Lists → ℕ → ℕ → Lists
  entered Q w r = record { listed = set Q.listed w (get_or ns r 0 ∷ r ∷ []); points = set Q.points w (get_or at r []); spot = set Q.spot r w }

  -- Place k has the number and the position of its row, which has k for its place.
  pub record Holds (Q : Lists) (k : ℕ) : Type 0 where
    pub number : number_at Q.listed k ≡ get_or ns (row_at Q.listed k) 0
    pub point : get_or Q.points k [] ≡ get_or at (row_at Q.listed k) []
    pub spot : spot_of Q (row_at Q.listed k) ≡ k

  module _ (left : List ℕ) where
    -- Of the rows from first to end those that have something left, and only those, are listed from place first to place e.
    pub record Live (Q : Lists) (first end e : ℕ) : Type 0 where
      pub low : first ≤ e
      pub high : e ≤ end
      pub holds : (k : ℕ) → first ≤ k → k < e → Holds Q k
      pub on : (k : ℕ) → first ≤ k → k < e → (first ≤ row_at Q.listed k) × (row_at Q.listed k < end)
      pub alive : (k : ℕ) → first ≤ k → k < e → 1 ≤ get_or left (row_at Q.listed k) 0
      pub all : (r : ℕ) → first ≤ r → r < end → 1 ≤ get_or left r 0 → (first ≤ spot_of Q r) × (spot_of Q r < e) × (row_at Q.listed (spot_of Q r) ≡ r)

    -- Row r is put on the list at place w where it has something left; e is the next place.
    pub data Noted (r w : ℕ) (Q Q' : Lists) (e : ℕ) : Type 0 where
      passes : get_or left r 0 ≡ 0 → Q' ≡ Q → e ≡ w → Noted r w Q Q' e
      enters : (get_or left r 0 ≡ 0 → ⊥) → Q' ≡ entered Q w r → e ≡ w + 1 → Noted r w Q Q' e

    -- They are put on the list, which changes nothing elsewhere.
    pub record Gathered (first end : ℕ) (Q Q' : Lists) (e : ℕ) : Type 0 where
      pub sized : Sized Q'
      pub live : Live Q' first end e
      pub apart : Elsewhere first end Q Q'

    -- A row stays on the list that ends at place e, or leaves it where it is used up: the last row listed takes its place.
    pub data Refreshed (row e : ℕ) (Q Q' : Lists) (r : ℕ) : Type 0 where
      stays : (get_or left row 0 ≡ 0 → ⊥) → Q' ≡ Q → r ≡ e → Refreshed row e Q Q' r
      leaves : get_or left row 0 ≡ 0 → Q' ≡ entered Q (spot_of Q row) (row_at Q.listed (e - 1)) → r ≡ e - 1 → Refreshed row e Q Q' r
