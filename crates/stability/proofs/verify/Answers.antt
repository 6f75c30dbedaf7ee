-- Limits that pass no new pair leave every pair shut, so that the links are the join, and the limits lent stay barred.
use native.Mathlib.Omega.{arith}
use mathlib.Core.Bool.{false≢true}
use Rattle.stability.proofs.Laws.Ranges.{fits_ranged, filled_both, sorts_apart}
use Rattle.stability.proofs.Laws.Later.{still_stable, barred_copied}
use Rattle.stability.proofs.Laws.Whole.{whole}
use Rattle.stability.proofs.verify.Goals as goal

pub returns-then-not-hold : goal.returns-then-not-hold
returns-then-not-hold c = (λ h. absurd (false≢true h), c.requires.1)

pub any_alike-requires : goal.any_alike-requires
any_alike-requires c = (fits_ranged c.args.set.fits, c.requires.1.room, omega arith)

pub returns-then-any_alike : goal.returns-then-any_alike
returns-then-any_alike c = (λ h. absurd (false≢true h), c.requires.1)

pub copy_both-requires : goal.copy_both-requires
copy_both-requires c = ((c.args.set.fits.fit 0).spans, omega arith, c.requires.1.room)

pub copy_both-requires-2 : goal.copy_both-requires-2
copy_both-requires-2 c = ((c.args.set.fits.fit 1).spans, omega arith, omega (arith, c.requires.1.room))

pub returns : goal.returns
returns c =
    let b = c.requires.1 in
    let a = c.args.set in
    let old = c.args.limits.now in
    let next = c.hold.new.last in
    let s = still_stable a.ns.now a.at.now old next a.sorts b (c.any_alike.ensures c.if-any_alike.false) in (
      λ w. whole _ _ _ _ _ _ _ _ a.fits c.numbers_fit.ensures (c.hold.ensures c.if-not-hold.false) s,
      barred_copied a.ns.now a.at.now old next a.sorts _ b.room s (filled_both _ _ _ _ _ _ (sorts_apart a.fits) c.copy_both.ensures c.copy_both-2.ensures),
    )
