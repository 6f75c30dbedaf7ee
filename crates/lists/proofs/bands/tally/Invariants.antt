-- The counts so far and those of the later links make the whole.
use Rattle.std.proofs.Common.{drop}
use Rattle.tables.specs.Laws.Bands.{Tally}
use Rattle.lists.specs.Lists.{distances, links_of}
use Rattle.lists.proofs.bands.tally.Given as goal

abbrev pub invariant-loop-link : goal.invariant-loop-link
invariant-loop-link l = Tally l.found (distances (links_of (drop l.link-index l.links))) (distances (links_of l.links))
