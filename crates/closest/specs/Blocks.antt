-- The rows of each master in blocks of 32. Each block has a list of its rows that have something left, and a box around all of its rows.
use Rattle.std.specs.Prelude.{ℕ, ◌+◌, ◌-◌, ◌*◌, ◌/◌, ◌<◌, ◌≤◌, min, ◌≡◌, List, [], length, get_or, set, ℤ}
use Rattle.matching.specs.declared.Range.{Range}
use Rattle.matching.specs.declared.Master.{Master}
use Rattle.matching.specs.Definitions.Columns.{Inside}
use Rattle.matching.specs.Definitions.Sizes.{set_rows, set_blocks, block_rows, number_range}
use Rattle.matching.specs.Definitions.Rows.{range, x_at, y_at}
use Rattle.boxes.specs.Boxes.{Around}
use Rattle.closest.specs.Rows.{Rows}
use Rattle.closest.specs.declared.live.Lists.{Lists}
use Rattle.closest.specs.Live.{Sized, Elsewhere, Live}

-- Where block b starts,
abbrev pub start : ℕ → ℕ
start b = b * block_rows

-- and where it stops, at the latest with its range.
abbrev pub stop : Range → ℕ → ℕ
stop r b = min (start b + block_rows) r.to

-- Block b is one of the range's.
abbrev pub Block : Range → ℕ → Type 0
Block r b = (r.from ≤ start b) × (start b < r.to)

-- The range begins with a block and has place in the columns.
pub record Aligned (r : Range) : Type 0 where
  pub begins : r.from ≡ start (r.from / block_rows)
  pub order : r.from ≤ r.to
  pub room : r.to ≤ set_rows

-- A block has a row: where its list ends,
abbrev pub end_of : List (List ℕ) → ℕ → ℕ
end_of E b = get_or (get_or E b []) 0 0

-- and its least number.
abbrev pub least_of : List (List ℕ) → ℕ → ℕ
least_of E b = get_or (get_or E b []) 1 0

-- No number of the rows from first to end is below r.
abbrev pub Least : (ℕ → ℕ) → ℕ → ℕ → ℕ → Type 0
Least number first end r = (k : ℕ) → first ≤ k → k < end → (r ≤ number k) × (number k < number_range)

-- Block b has the least number of the rows from first to end, and the box around their positions.
pub record Boxed (number : ℕ → ℕ) (at : List (List ℤ)) (E : List (List ℕ)) (X : List (List ℤ)) (b first end : ℕ) : Type 0 where
  pub around : Around at first end (get_or X b [])
  pub least : Least number first end (least_of E b)

-- The number of a row.
abbrev pub number_of : List ℕ → ℕ → ℕ
number_of ns k = get_or ns k 0

module _ (ns : List ℕ) (at : List (List ℤ)) where
  -- The columns in which the blocks of a range are laid out.
  pub record Laying (left : List ℕ) (r : Range) (Q : Lists) (E : List (List ℕ)) (X : List (List ℤ)) : Type 0 where
    pub sized : Sized ns at Q
    pub lefts : length left ≡ set_rows
    pub ends : length E ≡ set_blocks
    pub boxes : length X ≡ set_blocks
    pub range : Aligned r
    pub inside : (k : ℕ) → r.from ≤ k → k < r.to → Inside (x_at at k) (y_at at k)

  -- The blocks of a range ahead of block n have their lists and boxes; all else is as it was.
  pub record Laid (left : List ℕ) (r : Range) (n : ℕ) (Q : Lists) (E : List (List ℕ)) (X : List (List ℤ)) (Q' : Lists) (E' : List (List ℕ)) (X' : List (List ℤ)) : Type 0 where
    pub sized : Sized ns at Q'
    pub ends : length E' ≡ set_blocks
    pub boxes : length X' ≡ set_blocks
    pub lists : (b : ℕ) → Block r b → b < n → Live ns at left Q' (start b) (stop r b) (end_of E' b)
    pub boxed : (b : ℕ) → Block r b → b < n → Boxed (number_of ns) at E' X' b (start b) (stop r b)
    pub apart : Elsewhere r.from r.to Q Q'
    pub aside : (b : ℕ) → (Block r b → ⊥) → (get_or E' b [] ≡ get_or E b []) × (get_or X' b [] ≡ get_or X b [])

  -- So it is with all blocks of the range.
  abbrev pub LaidAll : List ℕ → Range → Lists → List (List ℕ) → List (List ℤ) → Lists → List (List ℕ) → List (List ℤ) → Type 0
  LaidAll left r = Laid left r set_blocks

module _ (R : Rows) where
  -- Each block lists its rows that have something left.
  pub record Kept (left : List ℕ) (Q : Lists) (E : List (List ℕ)) : Type 0 where
    pub sized : Sized R.ns R.at Q
    pub ends : length E ≡ set_blocks
    pub lists : (m : Master) (b : ℕ) → Block (range R.spans m) b → Live R.ns R.at left Q (start b) (stop (range R.spans m) b) (end_of E b)

  -- Each block has its box.
  pub record Fenced (E : List (List ℕ)) (X : List (List ℤ)) : Type 0 where
    pub boxes : length X ≡ set_blocks
    pub boxed : (m : Master) (b : ℕ) → Block (range R.spans m) b → Boxed (number_of R.ns) R.at E X b (start b) (stop (range R.spans m) b)

  -- A row loses m, and the lists are kept; least numbers are as they were.
  pub record Spent (left : List ℕ) (E : List (List ℕ)) (row m : ℕ) (left' : List ℕ) (Q' : Lists) (E' : List (List ℕ)) : Type 0 where
    pub lefts : left' ≡ set left row (get_or left row 0 - m)
    pub kept : Kept left' Q' E'
    pub leasts : (b : ℕ) → least_of E' b ≡ least_of E b
