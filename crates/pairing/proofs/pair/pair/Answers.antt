-- The verdict on the tables, or their links written.
use mathlib.Core.Path.{refl, ◌∙◌, ap}
use mathlib.Core.List.{List, ◌++◌}
use Rattle.std.specs.Prelude.{◌*◌, take, drop}
use native.Mathlib.Omega.{arith}
use Rattle.std.proofs.lemmas.Result.{err_from_is_err_and}
use Rattle.matching.specs.Definitions.Links.{Link}
use Rattle.tables.specs.Definitions.Sizes.{link_size}
use Rattle.tables.specs.Definitions.Lists.{list_bytes}
use Rattle.tables.specs.Laws.ListRead.{bytes_known}
use Rattle.lists.proofs.Laws.Rows.{links_taken}
use Rattle.contract.specs.declared.Refusal.TheVariants.{TableB}
use Rattle.contract.specs.Definitions.Requests.{pair}
use Rattle.contract.proofs.Laws.Places.{tried}
use Rattle.pairing.specs.Laws.Verdicts.{set_join}
use Rattle.pairing.specs.Laws.Calls.{tables_call, pair_call_lem}
use Rattle.pairing.specs.Laws.Sets.{sound_represents}
use Rattle.pairing.proofs.pair.pair.Goals as goal

pub returns-in_err-lengths : goal.returns-in_err-lengths
returns-in_err-lengths c =
    let x = c.args in
    let p = err_from_is_err_and c.from_residual.result c.from_residual.ensures.1 in
    rw (p.1, p.2) (tables_call pair x.a.now x.b.now x.list.now _ c.in_err-lengths.ensures refl (tried _ _ TableB refl refl))

pub returns-in_err-sorts : goal.returns-in_err-sorts
returns-in_err-sorts c =
    let x = c.args in
    let p = err_from_is_err_and c.from_residual-in_err-sorts.result c.from_residual-in_err-sorts.ensures.1 in
    rw (p.1, p.2) (tables_call pair x.a.now x.b.now x.list.now _ c.in_err-sorts.ensures refl (tried _ _ TableB refl refl))

pub new-set-requires : goal.new-set-requires
new-set-requires c = let r = c.in_ok-sorts.ensures in (sound_represents r.sound (bytes_known c.args.a.now c.type_inv.a) (bytes_known c.args.b.now c.type_inv.b) r.loaded).fits

pub returns : goal.returns
returns c =
    let x = c.args in
    let r = c.in_ok-sorts.ensures in
    let e = c.new-set.ensures in
    let ba = bytes_known x.a.now c.type_inv.a in
    let bb = bytes_known x.b.now c.type_inv.b in
    let j = rw (e.0, e.1, e.2, e.3) at c.join-n.ensures in
    pair_call_lem x.a.now x.b.now x.list.now _ _ _ r.sound ba bb r.size (set_join x.a.now x.b.now r.sound ba bb (sound_represents r.sound ba bb r.loaded) j)
    (c.write_rows.ensures ∙ ap (λ (K : List Link). take (link_size * 0) x.list.now ++ drop (link_size * 0) (list_bytes K)) (links_taken _ _ (omega (arith, j.most, j.room))))
