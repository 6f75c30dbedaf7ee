-- One sort and then the other.
use native.Mathlib.Omega.{arith}
use Rattle.std.proofs.Common.{◌∙◌}
use Rattle.update.proofs.Laws.Update.{still_outdated, current_both}
use Rattle.update.proofs.node.update_node.Goals as goal

pub update_sort-p-requires : goal.update_sort-p-requires
update_sort-p-requires c = c.requires.rows 0 (omega arith)

pub update_sort-q-requires : goal.update_sort-q-requires
update_sort-q-requires c = still_outdated c.requires c.update_sort-p.ensures.0

pub returns : goal.returns
returns c = let d = c.update_sort-q.ensures in (current_both c.requires c.update_sort-p.ensures.0 d.0, d.1 ∙ c.update_sort-p.ensures.1)
