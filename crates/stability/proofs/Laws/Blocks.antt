-- Blocks of a range, and what is past them. Assumes nothing.
use Prim.Native.Nat.{ℕ, ◌+◌, ◌≤◌, ◌<◌}
use mathlib.Core.List.{List}
use native.Mathlib.Omega.{arith}
use borrow.Author.Count.{below_more}
use lib.ListN.{length, get_or, set}
use lib.Seq.{get_or-set_same, get_or-set_other}
use Rattle.matching.specs.Definitions.Rows.{key}

-- A store at place k, after places below k.
pub stored_below : {X : Type 0} (z : X) (P : ℕ → X → Type 0) (xs : List X) (k : ℕ) (v : X) → k < length xs → ((j : ℕ) → j < k → P j (get_or xs j z)) → P k v
    → (j : ℕ) → j < k + 1 → P j (get_or (set xs k v) j z)
stored_below z P xs k v l h p =
    below_more (λ j. P j (get_or (set xs k v) j z)) k (λ j b. rw (get_or-set_other xs k j v z (λ e. omega arith)) (h j b)) (rw (get_or-set_same xs k v z l) p)

-- What is d away or farther, with the number m or a higher one, is not ahead of a limit up to their key.
pub past : (d m l e n : ℕ) → l ≤ key d m → d ≤ e → m ≤ n → ¬ (key e n < l)
past d m l e n h away from ahead = omega arith
