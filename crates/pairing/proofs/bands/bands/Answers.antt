-- The verdict's answer, or the counts of the links' distances.
use mathlib.Core.Path.{refl, ◌∙◌, ap}
use native.Mathlib.Omega.{arith}
use borrow.Author.Tests.{eq-eqb, ne_eqb}
use Rattle.std.proofs.lemmas.Result.{err_from_is_err_and}
use Rattle.tables.specs.Definitions.Bands.{band_bytes}
use Rattle.lists.proofs.Laws.Rows.{links_taken}
use Rattle.contract.specs.declared.Refusal.TheVariants.{Unfinished}
use Rattle.contract.specs.Definitions.Requests.{bands}
use Rattle.contract.proofs.Laws.Places.{tried}
use Rattle.pairing.specs.Laws.Calls.{own_call, list-call, bands_call_lem}
use Rattle.pairing.proofs.bands.bands.Goals as goal

pub returns-then-counts-ne-COUNTS : goal.returns-then-counts-ne-COUNTS
returns-then-counts-ne-COUNTS c = let x = c.args in rw c.into.ensures (own_call (bands x.counts.now) x.a.now x.b.now x.list.now (ne_eqb _ _ c.if-counts-ne-COUNTS.true))

pub returns-in_err-judge_all : goal.returns-in_err-judge_all
returns-in_err-judge_all c =
    let x = c.args in
    let p = err_from_is_err_and c.from_residual.result c.from_residual.ensures.1 in
    rw (p.1, p.2) (list-call (bands x.counts.now) x.a.now x.b.now x.list.now _ _ c.in_err-judge_all.ensures refl (eq-eqb _ _ c.if-counts-ne-COUNTS.false) (tried _ _ Unfinished refl refl))

pub returns : goal.returns
returns c =
    let x = c.args in
    let f = c.in_ok-judge_all.ensures in
    bands_call_lem x.a.now x.b.now x.list.now _ _ f x.counts.now _ (eq-eqb _ _ c.if-counts-ne-COUNTS.false)
    (c.count_bands.ensures ∙ rw c.from-n.ensures (ap band_bytes (links_taken c.judge_all.new.links _ (omega (arith, f.joined.most, f.joined.room)))))
