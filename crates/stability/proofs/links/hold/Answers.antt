-- No row is of both sorts, so what is noted of each sort holds together.
use native.Mathlib.Omega.{arith}
use lib.ListN.{length-replicate}
use Rattle.matching.specs.Definitions.Sizes.{set_rows}
use Rattle.stability.proofs.Laws.Ranges.{filled_both, sorts_apart}
use Rattle.stability.proofs.Laws.Links.{zeros}
use Rattle.stability.proofs.Laws.Limits.{held}
use Prim.Native.Nat.{ℕ}
use Rattle.stability.proofs.links.hold.Goals as goal

pub take_all-requires : goal.take_all-requires
take_all-requires c = let p = c.requires in (p.0, record { room = (length-replicate {A = ℕ} set_rows 0, p.1); within = λ i. omega (arith, zeros set_rows i) }, zeros set_rows)

pub note_both-requires : goal.note_both-requires
note_both-requires c = let f = c.args.set.fits.fit 0 in (f.spans, f.capacities, omega arith, omega arith)

pub note_both-requires-2 : goal.note_both-requires-2
note_both-requires-2 c = let f = c.args.set.fits.fit 1 in (f.spans, f.capacities, omega arith, omega arith)

pub returns : goal.returns
returns c = λ w. held _ _ _ _ _ _ _ _ _ _
    (c.in_order.ensures c.if-not-in_order.false)
    (c.take_all.ensures c.if-not-take_all.false)
    (filled_both _ _ _ _ _ _ (sorts_apart c.args.set.fits) c.note_both.ensures c.note_both-2.ensures)
