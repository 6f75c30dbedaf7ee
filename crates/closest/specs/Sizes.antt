-- The sizes that the join alone works with; the others are matching's.
use Rattle.std.specs.Prelude.{ℕ}

-- The places of a chain on which no row stands twice, with one to spare.
abbrev pub chain_rows : ℕ
chain_rows = 1153

-- Above every key.
abbrev pub far_key : ℕ
far_key = 18446744073709551615
