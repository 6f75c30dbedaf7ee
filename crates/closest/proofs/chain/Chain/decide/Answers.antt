-- With no chain, how one begins; else what the top's nearest row decides, by the laws of the chain.
use mathlib.Core.Path.{sym, ◌∙◌}
use native.Mathlib.Omega.{arith}
use Rattle.std.specs.Prelude.{None, Some}
use Rattle.closest.proofs.Laws.Chain.{may_push, may_take}
use Rattle.closest.proofs.Laws.Decide.{may_look, begun, top_placed, chain_room, seeding, top_chosen, top_stop, place_low}
use Rattle.closest.proofs.chain.Chain.decide.Goals as goal

pub returns-in_err-first : goal.returns-in_err-first
returns-in_err-first c = rw c.from_residual.ensures (begun _ _ _ _ _ _ _ c.requires c.if-depth-eq0.true None c.in_err-first.ensures)

pub returns-then-depth-eq0 : goal.returns-then-depth-eq0
returns-then-depth-eq0 c = begun _ _ _ _ _ _ _ c.requires c.if-depth-eq0.true (Some c.in_ok-first.first) c.in_ok-first.ensures

pub row-t-requires : goal.row-t-requires
row-t-requires c = omega (arith, chain_room _ _ _ _ _ _ _ c.requires c.if-depth-eq0.false)

pub below-seed-requires : goal.below-seed-requires
below-seed-requires c = let p = c.requires in let d = c.if-depth-eq0.false in (rw c.row-t.ensures (top_placed _ _ _ _ _ _ _ p d).inside, seeding _ _ _ _ _ _ _ p d)

pub partner-requires : goal.partner-requires
partner-requires c = let p = c.requires in (rw c.row-t.ensures (top_placed _ _ _ _ _ _ _ p c.if-depth-eq0.false), may_look _ _ _ _ _ _ _ p)

pub returns-in_err-near : goal.returns-in_err-near
returns-in_err-near c = rw c.from_residual-in_err-near.ensures (top_stop _ _ _ _ _ _ _ c.requires c.if-depth-eq0.false _ _ (rw c.row-t.ensures at c.below-seed.ensures) (rw c.row-t.ensures at c.partner.ensures) c.in_err-near.was)

pub offset_bounds-blocks-near : goal.offset_bounds-blocks-near
offset_bounds-blocks-near c = omega (arith, place_low _ _ _ _ _ _ _ c.requires c.if-depth-eq0.false _ _ (rw c.row-t.ensures at c.below-seed.ensures) (rw c.row-t.ensures at c.partner.ensures) _ c.in_ok-near.was)

pub bounds-blocks-near : goal.bounds-blocks-near
bounds-blocks-near c = omega (arith, place_low _ _ _ _ _ _ _ c.requires c.if-depth-eq0.false _ _ (rw c.row-t.ensures at c.below-seed.ensures) (rw c.row-t.ensures at c.partner.ensures) _ c.in_ok-near.was)

pub row-requires : goal.row-requires
row-requires c = omega (arith, chain_room _ _ _ _ _ _ _ c.requires c.if-depth-eq0.false)

pub returns-then-row : goal.returns-then-row
returns-then-row c = let p = c.requires in rw (c.sided.ensures, c.distance.ensures, c.row-t.ensures) (may_take _ _ p.sound _ _ p.path (omega arith) _ _ (top_chosen _ _ _ _ _ _ _ c.requires c.if-depth-eq0.false _ _ (rw c.row-t.ensures at c.below-seed.ensures) (rw c.row-t.ensures at c.partner.ensures) _ c.in_ok-near.was) (omega (arith, c.if-depth-gt1.true)) (sym c.row.ensures ∙ c.if-row.true))

pub returns-else-row : goal.returns-else-row
returns-else-row c = let p = c.requires in may_push _ _ p.sound _ _ p.path (omega arith) _ _ (top_chosen _ _ _ _ _ _ _ c.requires c.if-depth-eq0.false _ _ (rw c.row-t.ensures at c.below-seed.ensures) (rw c.row-t.ensures at c.partner.ensures) _ c.in_ok-near.was) (λ l e. c.if-row.false (c.row.ensures ∙ e))

pub returns-else-depth-gt1 : goal.returns-else-depth-gt1
returns-else-depth-gt1 c = let p = c.requires in may_push _ _ p.sound _ _ p.path (omega arith) _ _ (top_chosen _ _ _ _ _ _ _ c.requires c.if-depth-eq0.false _ _ (rw c.row-t.ensures at c.below-seed.ensures) (rw c.row-t.ensures at c.partner.ensures) _ c.in_ok-near.was) (λ l. absurd (omega (arith, c.if-depth-gt1.false)))
