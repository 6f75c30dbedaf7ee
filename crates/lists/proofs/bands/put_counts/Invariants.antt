-- With the counts to come put behind those that stand, it is the whole.
use Rattle.std.proofs.Common.{◌≡◌, ◌*◌, length, drop}
use Rattle.tables.specs.Definitions.Sizes.{count_size, counts_size}
use Rattle.tables.specs.Definitions.Fields.{nat_bytes}
use Rattle.tables.specs.Definitions.Rows.{flat, put}
use Rattle.lists.proofs.bands.put_counts.Given as goal

abbrev pub invariant-loop-k : goal.invariant-loop-k
invariant-loop-k l = (length l.counts ≡ counts_size) × (put l.counts (count_size * l.k) (flat (nat_bytes count_size) (drop l.k l.found)) ≡ flat (nat_bytes count_size) l.found)
