use native.Mathlib.Omega.{arith}
use Rattle.load.specs.Laws.LookUp.{walking_start, walking_done, walking_below, walking_above, walking_here, walking_on}
use Rattle.load.proofs.index.find.Goals as goal
use Rattle.load.proofs.index.find.Goals.{then-i-r-via-then-i-r, then-i-r-via-else-i-r+then-r-i}

pub loop-init : goal.loop-init
loop-init c = walking_start c.slot.ensures.0 c.from-i.ensures

pub returns-then-i-r : goal.returns-then-i-r
returns-then-i-r c =
    let w = c.loop.invariant in
    elim c.then-i-r.branch [
      | then-i-r-via-then-i-r b ↦ walking_below w (omega arith) b.if-i-r.true
      | then-i-r-via-else-i-r+then-r-i b ↦ walking_above w (omega arith) b.if-i-r.false b.if-r-i.true
    ]

pub returns-then-ns-i : goal.returns-then-ns-i
returns-then-ns-i c = walking_here c.loop.invariant (omega arith) c.if-i-r.false c.if-r-i.false c.if-ns-i.true

pub loop-preserved : goal.loop-preserved
loop-preserved c = walking_on c.loop.invariant (omega arith) c.if-i-r.false (omega arith) c.if-r-i.false c.if-ns-i.false c.from-i-in-loop.ensures

pub returns-after-loop : goal.returns-after-loop
returns-after-loop c = walking_done c.loop.invariant (omega arith)
