-- The greatest byte so far, and what is asked of those from k on.
use Rattle.std.proofs.Common.{◌≡◌, ◌-◌, ◌&&◌, eqb, get_or}
use Rattle.tables.specs.Definitions.Sizes.{list_size}
use Rattle.tables.specs.Definitions.Rows.{all_from}
use Rattle.tables.specs.Definitions.Lists.{zero_from}
use Rattle.lists.proofs.zeros.zero_from.Given as goal

abbrev pub invariant-loop-k : goal.invariant-loop-k
invariant-loop-k l = zero_from l.list l.row ≡ (eqb l.most 0 && all_from (λ j. eqb (get_or l.list j 0) 0) l.k (list_size - l.k))
