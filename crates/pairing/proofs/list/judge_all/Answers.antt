-- The verdict on the tables, and the list beside them.
use mathlib.Core.Path.{refl, ◌∙◌, ap}
use mathlib.Core.List.{List}
use Rattle.std.proofs.lemmas.Result.{err_from_is_err_and}
use Rattle.matching.specs.Definitions.Rows.{Represents}
use Rattle.matching.specs.Definitions.Links.{Link}
use Rattle.tables.specs.Definitions.Tables.{nodes_in}
use Rattle.tables.specs.Laws.ListRead.{bytes_known}
use Rattle.verdicts.specs.Lists.{list_answer}
use Rattle.pairing.specs.Laws.Verdicts.{list_refused, set_beside, set_links, set_joined, list_judged}
use Rattle.pairing.specs.Laws.Sets.{no_limits, sound_represents}
use Rattle.pairing.proofs.list.judge_all.Goals as goal
use Rattle.pairing.proofs.list.judge_all.Goals.{In_ok-sorts}

pub returns-in_err-lengths : goal.returns-in_err-lengths
returns-in_err-lengths c =
    let p = err_from_is_err_and c.from_residual.result c.from_residual.ensures.1 in
    rw (p.1, p.2) (list_refused c.in_err-lengths.ensures)

pub returns-in_err-sorts : goal.returns-in_err-sorts
returns-in_err-sorts c =
    let p = err_from_is_err_and c.from_residual-in_err-sorts.result c.from_residual-in_err-sorts.ensures.1 in
    rw (p.1, p.2) (list_refused c.in_err-sorts.ensures)

-- The set has the nodes of the tables.
represents : (c : In_ok-sorts) → let x = c.args in let r = c.load.new.self in Represents (nodes_in x.a.now) (nodes_in x.b.now) r.ns r.at r.cs c.in_ok-sorts.sorts
represents c = let r = c.in_ok-sorts.ensures in sound_represents r.sound (bytes_known c.args.a.now c.type_inv.a) (bytes_known c.args.b.now c.type_inv.b) r.loaded

pub examine-requires-clause-fits : goal.examine-requires-clause-fits
examine-requires-clause-fits c = ((represents (goal.at.examine-requires-clause-fits c).In_ok-sorts).fits, c.in_ok-sorts.ensures.indexed)

pub examine-requires-clause-beside : goal.examine-requires-clause-beside
examine-requires-clause-beside c =
    let x = c.args in
    let r = c.in_ok-sorts.ensures in
    set_beside x.a.now x.b.now r.sound (bytes_known x.a.now c.type_inv.a) (bytes_known x.b.now c.type_inv.b) (represents (goal.at.examine-requires-clause-beside c).In_ok-sorts) x.list.now r.size

pub examine-requires-clause-links_len : goal.examine-requires-clause-links_len
examine-requires-clause-links_len c = (c.requires, refl, no_limits c.in_ok-sorts.ensures.loaded.rows.spans)

pub returns : goal.returns
returns c =
    let x = c.args in
    let f = c.in_ok-sorts.ensures in
    let ba = bytes_known x.a.now c.type_inv.a in
    let bb = bytes_known x.b.now c.type_inv.b in
    let h = represents (goal.at.returns c).In_ok-sorts in
    let r = c.examine.ensures in
    list_judged x.a.now x.b.now f.sound ba bb x.list.now _ (set_joined x.a.now x.b.now f.sound ba bb h r.1) f.size _
    (r.0 ∙ ap (λ (K : List Link). list_answer x.list.now K) (set_links x.a.now x.b.now f.sound ba bb h))
