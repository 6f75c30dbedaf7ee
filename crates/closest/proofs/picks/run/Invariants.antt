-- The loop's invariant: the links taken, put into those still to be taken, are the join of what was left at first.
-- The measure is the step's.
use mathlib.Core.Path.{◌≡◌}
use Rattle.closest.specs.Chain.{Good, whole, to_go}
use Rattle.closest.specs.Rows.{lent}
use Rattle.closest.proofs.picks.run.Given as goal

abbrev pub invariant-loop-m : goal.invariant-loop-m
invariant-loop-m l = Good (lent l.rows) l.left l.blocks.lists l.blocks.ends l.blocks.boxes l.chain.rows l.links l.chain.depth l.taken × (whole (lent l.rows) l.left l.links l.taken ≡ whole (lent l.rows) l.initial.left l.initial.links l.n)

abbrev pub decreases-loop-m : goal.decreases-loop-m
decreases-loop-m l = to_go (lent l.rows) l.left l.chain.depth
