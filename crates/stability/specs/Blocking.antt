-- Blocking pairs: those that are ahead of the limits of both their nodes.
use Rattle.std.specs.Prelude.{ℕ, ◌<◌, List, ℤ, get_or}
use Rattle.matching.specs.declared.Range.{Range}
use Rattle.matching.specs.Definitions.Rows.{gap, key}
use Rattle.stability.specs.Ranges.{RowOf}

-- Nodes numbered m and n, d apart: their pair is ahead of the first one's limit k and of the second one's limit l.
abbrev pub Blocks : ℕ → ℕ → ℕ → ℕ → ℕ → Type 0
Blocks d m k n l = (key d n < k) × (key d m < l)

-- The pair of rows i and j: K has the limit of row i, L that of row j.
abbrev pub Blocking : List ℕ → List (List ℤ) → List ℕ → List ℕ → ℕ → ℕ → Type 0
Blocking ns at K L i j = Blocks (gap at i at j) (get_or ns i 0) (get_or K i 0) (get_or ns j 0) (get_or L j 0)

-- No pair of a row of p and a row of q blocks.
abbrev pub Stable : List ℕ → List (List ℤ) → List ℕ → List ℕ → Range → Range → Type 0
Stable ns at K L p q = (i j : ℕ) → RowOf p i → RowOf q j → ¬ Blocking ns at K L i j
