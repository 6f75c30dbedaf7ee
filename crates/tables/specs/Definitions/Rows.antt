-- Rows of bytes, and searches through them.
use Rattle.std.specs.Prelude.{ℕ, zero, suc, ◌+◌, ◌-◌, Bool, true, cond, ◌&&◌, List, [], ◌∷◌, ◌++◌, Option, Some, None, length, take, drop, replicate}

-- One row after the other.
unfoldable pub flat : {X : Type 0} → (X → List ℕ) → List X → List ℕ
flat row [] = []
flat row (x ∷ xs) = row x ++ flat row xs

-- So many bytes: xs first, zero bytes after.
unfoldable pub padded : ℕ → List ℕ → List ℕ
padded size xs = xs ++ replicate (size - length xs) 0

-- xs with vs in the place of what stands at i.
unfoldable pub put : List ℕ → ℕ → List ℕ → List ℕ
put xs i vs = take i xs ++ (vs ++ drop (i + length vs) xs)

-- The first of the n places from k on that p holds of.
unfoldable pub first_from : (ℕ → Bool) → ℕ → ℕ → Option ℕ
first_from p k zero = None
first_from p k (suc n) = cond (p k) (Some k) (first_from p (suc k) n)

-- p holds of each of the n places from k on.
unfoldable pub all_from : (ℕ → Bool) → ℕ → ℕ → Bool
all_from p k zero = true
all_from p k (suc n) = p k && all_from p (suc k) n
