-- The rows in common stay, the others are written.
use Rattle.std.specs.Prelude.{◌≤◌, length}
use native.Mathlib.Omega.{arith}
use Rattle.matching.specs.Definitions.Rows.{link_of}
use Rattle.lists.specs.Lists.{links_of}
use Rattle.std.proofs.lemmas.List.{length-map}
use Rattle.verdicts.specs.Laws.Lists.{kept_low}
use Rattle.verdicts.proofs.write.rewrite.Goals as goal
use Rattle.verdicts.proofs.write.rewrite.Goals.{After-common_rows-kept}

-- No more rows are kept than there are new links.
low : (c : After-common_rows-kept) → c.common_rows-kept.result ≤ length c.args.new.now
low c = omega (arith, c.common_rows-kept.ensures.0, kept_low (links_of c.args.old.now) (links_of c.args.new.now), length-map c.args.new.now link_of)

pub write_rows-requires : goal.write_rows-requires
write_rows-requires c = (c.requires.0, low (goal.at.write_rows-requires c).After-common_rows-kept, c.requires.1)

pub returns : goal.returns
returns c = record { kept = c.common_rows-kept.ensures.0; rows = c.write_rows.ensures; low = omega (arith, low (goal.at.returns c).After-common_rows-kept, c.requires.1) }
