-- What is left less what the later links use is the answer.
use Rattle.std.proofs.Common.{◌≡◌, ◌-◌, drop}
use Rattle.matching.specs.Definitions.Links.{used}
use Rattle.lists.specs.Lists.{links_of}
use Rattle.lists.proofs.spare.spare.Given as goal

abbrev pub invariant-loop-link : goal.invariant-loop-link
invariant-loop-link l = l.left - used l.master (links_of (drop l.link-index l.links)) l.number ≡ l.capacity - used l.master (links_of l.links) l.number
