-- The lengths, the verdict on the tables, or what comes of the list.
use mathlib.Core.Path.{refl}
use borrow.Author.Tests.{eq-eqb, ne_eqb}
use Rattle.std.proofs.lemmas.Result.{err_from_is_err_and}
use Rattle.contract.specs.declared.Refusal.TheVariants.{TableB}
use Rattle.contract.specs.Definitions.Requests.{edit}
use Rattle.contract.proofs.Laws.Places.{tried}
use Rattle.pairing.specs.Laws.Calls.{own_call, tables_call}
use Rattle.pairing.proofs.edit.edit.Goals as goal

pub returns-then-edit-ne-EDIT : goal.returns-then-edit-ne-EDIT
returns-then-edit-ne-EDIT c = let x = c.args in rw c.into.ensures (own_call (edit x.edit.now) x.a.now x.b.now x.list.now (ne_eqb _ _ c.if-edit-ne-EDIT.true))

pub returns-in_err-lengths : goal.returns-in_err-lengths
returns-in_err-lengths c =
    let x = c.args in
    let p = err_from_is_err_and c.from_residual.result c.from_residual.ensures.1 in
    rw (p.1, p.2) (tables_call (edit x.edit.now) x.a.now x.b.now x.list.now _ c.in_err-lengths.ensures (eq-eqb _ _ c.if-edit-ne-EDIT.false) (tried _ _ TableB refl refl))

pub returns-in_err-sorts : goal.returns-in_err-sorts
returns-in_err-sorts c =
    let x = c.args in
    let p = err_from_is_err_and c.from_residual-in_err-sorts.result c.from_residual-in_err-sorts.ensures.1 in
    rw (p.1, p.2) (tables_call (edit x.edit.now) x.a.now x.b.now x.list.now _ c.in_err-sorts.ensures (eq-eqb _ _ c.if-edit-ne-EDIT.false) (tried _ _ TableB refl refl))
