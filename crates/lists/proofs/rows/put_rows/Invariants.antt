-- With the later rows put behind those that stand, it is the whole.
use Rattle.std.proofs.Common.{◌≡◌, ◌*◌, length, drop}
use Rattle.tables.specs.Definitions.Sizes.{link_size}
use Rattle.tables.specs.Definitions.Lists.{link_bytes}
use Rattle.tables.specs.Definitions.Rows.{flat, put}
use Rattle.lists.specs.Lists.{links_of}
use Rattle.lists.proofs.rows.put_rows.Given as goal

abbrev pub invariant-loop-k : goal.invariant-loop-k
invariant-loop-k l =
    (length l.part ≡ length l.fn.part)
    × (put l.part (link_size * l.k) (flat link_bytes (drop l.k (links_of l.links))) ≡ put l.fn.part 0 (flat link_bytes (links_of l.links)))
