-- The sizes that contracts and proofs cite, beside matching's; the code's stand in src/sizes.rt.
use Rattle.std.specs.Prelude.{ℕ}

-- The rows with a surplus that are kept.
abbrev pub surplus_rows : ℕ
surplus_rows = 64

-- The most that a search or a look costs at a time.
abbrev pub cost_most : ℕ
cost_most = 1024
