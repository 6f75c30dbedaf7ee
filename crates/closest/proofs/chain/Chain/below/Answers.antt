-- One case for each way out.
use mathlib.Core.Path.{refl}
use Rattle.closest.specs.Chain.{none, under}
use Rattle.closest.proofs.chain.Chain.below.Goals as goal

pub returns-then-self-lt2 : goal.returns-then-self-lt2
returns-then-self-lt2 c = none c.if-self-lt2.true refl

pub measure-requires : goal.measure-requires
measure-requires c = let p = c.requires in let l = c.if-self-lt2.false in rw (c.from-at.ensures, c.row.ensures) (p.0, p.1.place l, p.1.placed l)

pub returns : goal.returns
returns c = under c.if-self-lt2.false (rw (c.from-at.ensures, c.row.ensures)) c.measure.ensures
