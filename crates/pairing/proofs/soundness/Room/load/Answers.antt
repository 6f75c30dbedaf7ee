-- The lengths, and the verdict on the tables, which are loaded.
use Rattle.std.specs.Prelude.{Ok, Err}
use Rattle.std.proofs.Common.{rules}
use Rattle.std.proofs.lemmas.Result.{err_from_is_err_and}
use Rattle.matching.specs.declared.Master.TheVariants.{A as master_a, B as master_b}
use Rattle.contract.proofs.Laws.Conditions.{stated}
use Rattle.load.specs.Laws.Represents.{loaded_named}
use Rattle.pairing.specs.Laws.Verdicts.{tables_judged}
use Rattle.pairing.proofs.soundness.Room.load.Goals as goal

pub returns-in_err-lengths : goal.returns-in_err-lengths
returns-in_err-lengths c =
    let p = err_from_is_err_and c.from_residual.result c.from_residual.ensures.1 in
    rw (p.1, p.2) c.in_err-lengths.ensures

pub load-sorts-requires : goal.load-sorts-requires
load-sorts-requires c = let s = stated _ _ c.in_ok-lengths.ensures in (s.a, s.b, record { numbers = search rules; positions = search rules; capacities = search rules })

pub judge-requires-clause-a_len : goal.judge-requires-clause-a_len
judge-requires-clause-a_len c = let s = stated _ _ c.in_ok-lengths.ensures in (s.a, s.b, record { slots = search rules; rows = search rules })

pub judge-requires-clause-named : goal.judge-requires-clause-named
judge-requires-clause-named c = let l = c.load-sorts.ensures in (loaded_named l master_a, loaded_named l master_b)

pub returns-in_err-judge : goal.returns-in_err-judge
returns-in_err-judge c =
    let x = c.args in
    let p = err_from_is_err_and c.from_residual-in_err-judge.result c.from_residual-in_err-judge.ensures.1 in
    rw (p.1, p.2) (tables_judged x.a.now x.b.now x.list.now c.in_ok-lengths.ensures (Err c.in_err-judge.field-0.0) c.in_err-judge.ensures.0)

pub returns : goal.returns
returns c =
    let x = c.args in
    let t = tables_judged x.a.now x.b.now x.list.now c.in_ok-lengths.ensures (Ok tt) c.in_ok-judge.ensures.0 in
    record { sound = t.0; size = t.1; loaded = c.load-sorts.ensures; indexed = c.in_ok-judge.ensures.1 }
