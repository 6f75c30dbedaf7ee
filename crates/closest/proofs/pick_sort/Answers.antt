-- A sort without rows in a master has no link.
use native.Mathlib.Omega.{arith}
use Rattle.closest.proofs.Laws.Sorts.{picked_none}
use Rattle.closest.proofs.pick_sort.Goals as goal

pub returns-then-s : goal.returns-then-s
returns-then-s c = let p = c.requires in picked_none _ _ _ _ (c.args.rows.now.fit _ p.0) p.1 (λ i j h g. omega arith)

pub returns-then-s-2 : goal.returns-then-s-2
returns-then-s-2 c = let p = c.requires in picked_none _ _ _ _ (c.args.rows.now.fit _ p.0) p.1 (λ i j h g. omega arith)
