-- The sizes that the check works with, beside those of `matching`. No other file of this crate has these numbers.
use Rattle.std.specs.Prelude.{ℕ}

-- The limit of a row that has something left: the key of every pair is below it.
abbrev pub free : ℕ
free = 18446744073709551615

-- The most blocks of a range.
abbrev pub range_blocks : ℕ
range_blocks = 16
