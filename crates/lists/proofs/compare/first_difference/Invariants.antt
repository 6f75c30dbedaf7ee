-- The first row that differs is the first from `row` on.
use Rattle.std.proofs.Common.{◌≡◌, ◌-◌}
use Rattle.matching.specs.Definitions.Sizes.{link_rows}
use Rattle.tables.specs.Definitions.Rows.{first_from}
use Rattle.tables.specs.Definitions.Lists.{list_bytes, differs, first_difference}
use Rattle.lists.specs.Lists.{links_of}
use Rattle.lists.proofs.compare.first_difference.Given as goal

abbrev pub invariant-loop-row : goal.invariant-loop-row
invariant-loop-row l =
    first_difference l.list (list_bytes (links_of l.links)) ≡ first_from (differs l.list (list_bytes (links_of l.links))) l.row (link_rows - l.row)
