-- The verdict's answer, or the link that is due.
use native.Mathlib.Omega.{arith}
use Rattle.tables.specs.Laws.ListRead.{bytes_known}
use Rattle.pairing.specs.Verdicts.{Leading}
use Rattle.pairing.specs.Laws.Calls.{step_none, step_refused, step_call_lem, due}
use Rattle.pairing.proofs.step.step.Goals as goal
use Rattle.pairing.proofs.step.step.Goals.{After-from-row}

-- The list ends too early, in the row that the verdict gives; the rows have all links.
early : (c : After-from-row) →
    let x = c.args in
    Leading x.a.now x.b.now x.list.now c.judge_all.new.links c.from-row.result
early c = rw c.from-row.ensures (c.in-Err.ensures.early c.in-Unfinished.is)

pub bounds-links-row : goal.bounds-links-row
bounds-links-row c = let f = early (goal.at.bounds-links-row c).After-from-row in omega (arith, due _ _ _ _ _ f, f.joined.most)

pub put_row-requires : goal.put_row-requires
put_row-requires c = let f = early (goal.at.put_row-requires c).After-from-row in omega (arith, due _ _ _ _ _ f, f.joined.most, f.size)

pub returns-in_default : goal.returns-in_default
returns-in_default c = let x = c.args in step_none x.a.now x.b.now x.list.now _ _ c.in_default.ensures

pub returns-in-Unfinished : goal.returns-in-Unfinished
returns-in-Unfinished c =
    let x = c.args in
    step_call_lem x.a.now x.b.now x.list.now _ _ (early (goal.at.returns-in-Unfinished c).After-from-row) _ (bytes_known x.a.now c.type_inv.a) (bytes_known x.b.now c.type_inv.b) c.put_row.ensures

pub returns-in_default-refusal : goal.returns-in_default-refusal
returns-in_default-refusal c = let x = c.args in step_refused x.a.now x.b.now x.list.now _ _ c.in_default-refusal.not-Unfinished c.in-Err.ensures
