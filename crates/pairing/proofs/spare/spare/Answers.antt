-- The verdict's answer, or the node's.
use mathlib.Core.Path.{refl, ◌∙◌, ap}
use mathlib.Core.List.{List}
use native.Mathlib.Omega.{arith}
use Rattle.std.proofs.lemmas.Result.{err_from_is_err_and}
use Rattle.lists.proofs.Laws.Rows.{links_taken}
use Rattle.matching.specs.Definitions.Links.{Link}
use Rattle.contract.specs.declared.Refusal.TheVariants.{Unfinished}
use Rattle.contract.specs.Definitions.Requests.{spare}
use Rattle.contract.proofs.Laws.Places.{tried}
use Rattle.verdicts.specs.Spare.{master_spare}
use Rattle.pairing.specs.Laws.Calls.{list-call}
use Rattle.pairing.specs.Laws.Spare.{spare_call_lem}
use Rattle.pairing.proofs.spare.spare.Goals as goal

pub returns-in_err-judge_all : goal.returns-in_err-judge_all
returns-in_err-judge_all c =
    let x = c.args in
    let p = err_from_is_err_and c.from_residual.result c.from_residual.ensures.1 in
    rw (p.1, p.2) (list-call (spare x.master x.number) x.a.now x.b.now x.list.now _ _ c.in_err-judge_all.ensures refl refl (tried _ _ Unfinished refl refl))

pub returns : goal.returns
returns c =
    let x = c.args in
    let f = c.in_ok-judge_all.ensures in
    spare_call_lem x.a.now x.b.now x.list.now _ _ f x.master x.number _
    (c.of_master.ensures ∙ rw c.from-n.ensures (ap (λ (K : List Link). master_spare x.a.now x.b.now K x.master x.number) (links_taken c.judge_all.new.links _ (omega (arith, f.joined.most, f.joined.room)))))
