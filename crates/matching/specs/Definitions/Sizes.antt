-- How much code works on at a time, for every crate above this one. src/sizes.rt has the same numbers.
use Rattle.std.specs.Prelude.{ℕ}

-- Positions are from -16,384 to 16,384, and so differences from -32,768 to 32,768.
abbrev pub edge : ℕ
edge = 16384

abbrev pub reach : ℕ
reach = 32768

-- The most nodes of a master, and the most links of two masters.
abbrev pub node_rows : ℕ
node_rows = 512

abbrev pub link_rows : ℕ
link_rows = 1023

-- The rows of both masters in one set: A's stand below half, B's from there on. Each sort begins with a block and has room for a row more.
abbrev pub half : ℕ
half = 576

abbrev pub set_rows : ℕ
set_rows = 1152

-- The rows of a block, and the blocks of the set.
abbrev pub block_rows : ℕ
block_rows = 32

abbrev pub set_blocks : ℕ
set_blocks = 36

-- Node numbers are below this: a key is a distance times it, plus a number.
abbrev pub number_range : ℕ
number_range = 4294967296
