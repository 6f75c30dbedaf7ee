use mathlib.Core.Path.{refl}
use native.Mathlib.Omega.{arith}
use Rattle.closest.specs.Chain.{whole}
use Rattle.closest.proofs.Laws.Step.{good_start}
use Rattle.closest.proofs.picks.run.Goals as goal

pub loop-m-init : goal.loop-m-init
loop-m-init c = let p = c.requires in (good_start _ _ _ _ _ _ _ _ (c.args.rows.now.fit _ p.lefts) p.kept.0 p.fenced refl p.kept.1, refl)

pub returns : goal.returns
unfolding whole
returns c = let i = c.loop-m.invariant in record { most = omega (arith, i.0.room.most); room = i.0.room.size; all = rw c.in_default.ensures at i.1 }
