-- The links read and those of the rows from k on are the links of the list.
use Rattle.std.proofs.Common.{◌≡◌, ◌-◌, ◌++◌, length}
use Rattle.matching.specs.Definitions.Rows.{links_in}
use Rattle.matching.specs.Definitions.Sizes.{link_rows}
use Rattle.tables.specs.Definitions.Lists.{links_from, links_in as listed}
use Rattle.lists.proofs.rows.read_links.Given as goal

abbrev pub invariant-loop-k : goal.invariant-loop-k
invariant-loop-k l = (length l.links ≡ link_rows) × (links_in l.links l.k ++ links_from l.list l.k (link_rows - l.k) ≡ listed l.list)
