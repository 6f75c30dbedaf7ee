-- Words and numbers as text, in ASCII, and a text that a lent buffer holds.
use Rattle.std.specs.Prelude.{ℕ, zero, suc, ◌+◌, ◌/◌, ◌%◌, ◌≡◌, cond, List, [], ◌∷◌, ◌++◌, ltb, length}
use Prim.Native.Char.{code}
use Prim.Native.String.{String, [] as empty, ◌∷◌ as ◌then◌}
use Rattle.tables.specs.Definitions.Rows.{put}

-- A text's characters, a byte each.
abbrev pub bytes : String → List ℕ
bytes empty = []
bytes (c then s) = code c ∷ bytes s

abbrev pub digit : ℕ → ℕ
digit d = 48 + d

-- A number of at most k digits in decimal, the most significant digit first.
unfoldable pub digits : ℕ → ℕ → List ℕ
digits zero n = []
digits (suc k) n = cond (ltb n 10) (digit n ∷ []) (digits k (n / 10) ++ (digit (n % 10) ∷ []))

-- No number has more digits than its successor counts.
unfoldable pub decimal : ℕ → List ℕ
unfolding digits
decimal n = digits (suc n) n

-- A word with a number behind it: what the lines are made of.
unfoldable pub field : List ℕ → ℕ → List ℕ
unfolding decimal
field word n = word ++ decimal n

-- The same at the end of a line.
unfoldable pub last_field : List ℕ → ℕ → List ℕ
unfolding field
last_field word n = field word n ++ bytes "\n"

-- The text w is put at `at` in t, which is then t', and r is its end.
pub record Written (t : List ℕ) (at : ℕ) (w t' : List ℕ) (r : ℕ) : Type 0 where
  pub end : r ≡ at + length w
  pub text : t' ≡ put t at w
