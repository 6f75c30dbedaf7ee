-- What its callees say.
use Rattle.std.proofs.Common.{◌∙◌, ap}
use Rattle.tables.specs.Definitions.Sizes.{count_size}
use Rattle.tables.specs.Definitions.Fields.{nat_bytes}
use Rattle.tables.specs.Definitions.Rows.{flat}
use Rattle.lists.specs.Lists.{links_of}
use Rattle.lists.proofs.Laws.Bands.{counts_bytes}
use Rattle.lists.proofs.bands.count_bands.Goals as goal

pub returns : goal.returns
returns c = c.put_counts.ensures ∙ ap (flat (nat_bytes count_size)) c.tally.ensures ∙ counts_bytes (links_of c.args.links.now)
