-- Each move is a law of the step.
use native.Mathlib.Omega.{arith}
use Rattle.closest.proofs.Laws.Step.{depth_low, stepped_push, deep, has_row, may_take, stepped_take}
use Rattle.closest.proofs.picks.step.Goals as goal

pub push-requires : goal.push-requires
push-requires c = let p = c.requires in let q = rw c.in-Push.is at p.1 in (depth_low _ _ _ _ _ _ _ _ _ p.0, omega (arith, p.0.ready.path.room), q.held.low)

pub pair-requires-clause-takes : goal.pair-requires-clause-takes
pair-requires-clause-takes c = let p = c.requires in let q = rw c.in-Take.is at p.1 in (may_take _ _ _ _ _ _ _ _ _ p.0 _ q, p.0.ready.sound.capacities, has_row _ _ _ _ _ _ _ _ _ p.0 _ q)

pub trim-requires : goal.trim-requires
trim-requires c = let p = c.requires in let q = rw c.in-Take.is at p.1 in (deep _ _ _ _ _ _ _ _ _ p.0 _ q, omega (arith, depth_low _ _ _ _ _ _ _ _ _ p.0), λ h l. omega (arith, (p.0.ready.path.held h l).low, p.0.ready.sound.capacities))

pub returns-in-Push : goal.returns-in-Push
returns-in-Push c = let p = c.requires in let q = rw c.in-Push.is at p.1 in rw (c.push.ensures.0, c.push.ensures.1) (stepped_push _ _ _ _ _ _ _ _ _ p.0 _ q)

pub returns-in-Take : goal.returns-in-Take
returns-in-Take c = let p = c.requires in let q = rw c.in-Take.is at p.1 in rw c.pair.ensures.boxes (stepped_take _ _ _ _ _ _ _ _ _ p.0 _ q _ _ _ _ _ _ c.pair.ensures.taken c.trim.ensures)
