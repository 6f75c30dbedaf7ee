-- Fields of bytes: little-endian numbers of any width, and two's complement positions.
use Rattle.std.specs.Prelude.{ℕ, zero, suc, ◌+◌, ◌*◌, ◌-◌, ◌/◌, ◌%◌, ◌<◌, cond, List, [], ◌∷◌, ltb, ℤ, pos, negsuc, ◌-ℤ◌, get_or}
use Rattle.matching.specs.Definitions.Lists.{All}
use Rattle.tables.specs.Definitions.Sizes.{position_size}

abbrev pub Bytes : List ℕ → Type 0
Bytes xs = All (λ b. b < 256) xs

-- The number in the w bytes at i, the lowest byte first,
unfoldable pub nat_at : ℕ → List ℕ → ℕ → ℕ
nat_at zero xs i = 0
nat_at (suc w) xs i = get_or xs i 0 + 256 * nat_at w xs (suc i)

-- and a number as w bytes.
unfoldable pub nat_bytes : ℕ → ℕ → List ℕ
nat_bytes zero n = []
nat_bytes (suc w) n = n % 256 ∷ nat_bytes w (n / 256)

-- Two's complement in 16 bits: the position that a field stands for, itself or itself less 65,536; and the field of a position.
unfoldable pub signed : ℕ → ℤ
signed n = cond (ltb n 32768) (pos n) (pos n -ℤ pos 65536)

unfoldable pub unsigned : ℤ → ℕ
unsigned (pos n) = n
unsigned (negsuc n) = 65535 - n

unfoldable pub position_at : List ℕ → ℕ → ℤ
unfolding nat_at signed
position_at xs i = signed (nat_at position_size xs i)
