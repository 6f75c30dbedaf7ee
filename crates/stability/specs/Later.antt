-- Limits of before and new ones: which rows have a later limit than before.
use Rattle.std.specs.Prelude.{ℕ, ◌≤◌, ◌<◌, ◌≡◌, List, ℤ, get_or}
use Rattle.matching.specs.declared.Range.{Range}
use Rattle.stability.specs.Ranges.{RowOf}
use Rattle.stability.specs.Blocking.{Blocking}

-- The new limit is no later than the old one, or r is the new limit.
pub data Later (old new r : ℕ) : Type 0 where
  sooner : new ≤ old → Later old new r
  later : r ≡ new → Later old new r

-- The new limit is later than the old one, or takes no pair.
pub data Moved (old new : ℕ) : Type 0 where
  moved : old < new → Moved old new
  none : new ≡ 0 → Moved old new

-- No pair of a row of p that has a later limit and a row of q blocks.
pub data Passed (ns : List ℕ) (at : List (List ℤ)) (old new : List ℕ) (i j : ℕ) : Type 0 where
  kept : get_or new i 0 ≤ get_or old i 0 → Passed ns at old new i j
  stable : ¬ Blocking ns at new new i j → Passed ns at old new i j

-- The pairs that do not block by the old limits do not by the new ones.
abbrev pub StillStable : List ℕ → List (List ℤ) → List ℕ → List ℕ → Range → Range → Type 0
StillStable ns at old new p q = (i j : ℕ) → RowOf p i → RowOf q j → ¬ Blocking ns at old old i j → ¬ Blocking ns at new new i j
