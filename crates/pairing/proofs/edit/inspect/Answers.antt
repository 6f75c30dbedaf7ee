-- Refused by the list or the edit's own places, or performed.
use Prim.Native.Nat.{ℕ}
use Rattle.std.specs.Prelude.{◌≤◌, length, Ok}
use mathlib.Core.Path.{◌≡◌, refl, sym, ◌∙◌, ap, subst}
use Rattle.std.proofs.lemmas.List.{length-take-le}
use Rattle.lists.proofs.Laws.Rows.{links_taken}
use mathlib.Core.List.{List}
use borrow.Author.Tests.{eq-eqb}
use native.Mathlib.Omega.{arith}
use Rattle.std.proofs.lemmas.Result.{err_from_is_err_and}
use Rattle.matching.specs.Definitions.Links.{Link}
use Rattle.tables.specs.Laws.ListRead.{bytes_known}
use Rattle.contract.specs.declared.Refusal.TheVariants.{Unfinished}
use Rattle.contract.specs.Definitions.Requests.{edit}
use Rattle.contract.proofs.Laws.Places.{tried}
use Rattle.verdicts.specs.Lists.{list_answer}
use Rattle.pairing.specs.Verdicts.{ListJudged, Finished}
use Rattle.pairing.specs.Laws.Verdicts.{set_beside, set_links, set_joined, list_judged}
use Rattle.pairing.specs.Laws.Calls.{list-call}
use Rattle.pairing.specs.Laws.Sets.{no_limits, sound_represents, edited_set}
use Rattle.pairing.specs.Laws.Edited.{edit_refused, unrefused, edit_passed, changed_sound, performed}
use Rattle.pairing.proofs.edit.inspect.Goals as goal
use Rattle.pairing.proofs.edit.inspect.Goals.{After-examine-answer}

pub examine-answer-requires-clause-fits : goal.examine-answer-requires-clause-fits
examine-answer-requires-clause-fits c =
    let r = c.requires.ready in
    ((sound_represents r.sound (bytes_known c.args.a.now c.type_inv.a) (bytes_known c.args.b.now c.type_inv.b) r.loaded).fits, r.indexed)

pub examine-answer-requires-clause-beside : goal.examine-answer-requires-clause-beside
examine-answer-requires-clause-beside c =
    let x = c.args in
    let r = c.requires.ready in
    let ba = bytes_known x.a.now c.type_inv.a in
    let bb = bytes_known x.b.now c.type_inv.b in
    set_beside x.a.now x.b.now r.sound ba bb (sound_represents r.sound ba bb r.loaded) x.list.now r.size

pub examine-answer-requires-clause-links_len : goal.examine-answer-requires-clause-links_len
examine-answer-requires-clause-links_len c = (refl, refl, no_limits c.requires.ready.loaded.rows.spans)

-- The verdict on the list.
judged : (c : After-examine-answer) → let x = c.args in ListJudged x.a.now x.b.now x.list.now c.examine-answer.new.links c.examine-answer.result
judged c =
    let x = c.args in
    let f = c.requires.ready in
    let ba = bytes_known x.a.now c.type_inv.a in
    let bb = bytes_known x.b.now c.type_inv.b in
    let h = sound_represents f.sound ba bb f.loaded in
    let r = c.examine-answer.ensures in
    list_judged x.a.now x.b.now f.sound ba bb x.list.now _ (set_joined x.a.now x.b.now f.sound ba bb h r.1) f.size _
    (r.0 ∙ ap (λ (K : List Link). list_answer x.list.now K) (set_links x.a.now x.b.now f.sound ba bb h))

-- The list is finished, and the rows have its links.
found : (c : After-examine-answer) (n : ℕ) → c.examine-answer.result ≡ Ok n → let x = c.args in Finished x.a.now x.b.now x.list.now c.examine-answer.new.links n
found c n e = let x = c.args in subst (ListJudged x.a.now x.b.now x.list.now c.examine-answer.new.links) e (judged c)

pub returns-in_err-answer : goal.returns-in_err-answer
returns-in_err-answer c =
    let x = c.args in
    let p = err_from_is_err_and c.from_residual.result c.from_residual.ensures.1 in
    let f = subst (ListJudged x.a.now x.b.now x.list.now c.examine-answer.new.links) c.in_err-answer.was (judged (goal.at.returns-in_err-answer c).After-examine-answer) in
    rw (p.1, p.2) (list-call (edit x.edit.now) x.a.now x.b.now x.list.now _ _ f refl (eq-eqb _ _ c.requires.edit_len) (tried _ _ Unfinished refl refl))

pub returns-in_err-perform : goal.returns-in_err-perform
returns-in_err-perform c =
    let x = c.args in
    let p = err_from_is_err_and c.from_residual-in_err-perform.result c.from_residual-in_err-perform.ensures.1 in
    let same = c.in_err-perform.ensures in
    rw (p.1, p.2, same.1.0, same.1.1) (edit_refused x.edit.now x.a.now x.b.now x.list.now _ _ (found (goal.at.returns-in_err-perform c).After-examine-answer _ c.in_ok-answer.was) c.requires.edit_len _ same.0)

-- So both arrays have rows for them.
in_links : (c : After-examine-answer) (n k : ℕ) → c.examine-answer.result ≡ Ok n → k ≡ n → k ≤ length c.examine-answer.new.links
in_links c n k e i = let f = found c n e in omega (arith, f.joined.most, f.joined.room)

in_places : (c : After-examine-answer) (n k : ℕ) → c.examine-answer.result ≡ Ok n → k ≡ n → k ≤ length c.examine-answer.new.places
in_places c n k e i = let f = found c n e in omega (arith, f.joined.most, c.examine-answer.ensures.2)

pub slice_bounds-links-end : goal.slice_bounds-links-end
slice_bounds-links-end c = in_links (goal.at.slice_bounds-links-end c).After-examine-answer _ _ c.in_ok-answer.was c.from-n.ensures

pub slice_bounds-revise-end : goal.slice_bounds-revise-end
slice_bounds-revise-end c = sym (length-take-le _ _ (in_links (goal.at.slice_bounds-revise-end c).After-examine-answer _ _ c.in_ok-answer.was c.from-n.ensures))

pub slice_bounds-places-end : goal.slice_bounds-places-end
slice_bounds-places-end c = in_places (goal.at.slice_bounds-places-end c).After-examine-answer _ _ c.in_ok-answer.was c.from-n.ensures

pub slice_bounds-revise-end-2 : goal.slice_bounds-revise-end-2
slice_bounds-revise-end-2 c = sym (length-take-le _ _ (in_places (goal.at.slice_bounds-revise-end-2 c).After-examine-answer _ _ c.in_ok-answer.was c.from-n.ensures))

pub revise-kept-requires-clause-edited : goal.revise-kept-requires-clause-edited
revise-kept-requires-clause-edited c =
    let at-list = (goal.at.revise-kept-requires-clause-edited c).After-examine-answer in
    let x = c.args in
    let r = c.requires.ready in
    let f = found (goal.at.revise-kept-requires-clause-edited c).After-examine-answer _ c.in_ok-answer.was in
    let ba = bytes_known x.a.now at-list.type_inv.a in
    let bb = bytes_known x.b.now at-list.type_inv.b in
    let changed = c.in_ok-perform.ensures.1 in
    let q = edit_passed x.edit.now x.a.now x.b.now x.list.now _ _ f c.requires.edit_len c.in_ok-perform.ensures.0 (bytes_known x.edit.now c.type_inv.edit) in (
      edited_set x.edit.now x.a.now x.b.now r.sound ba bb q _ _ changed c.requires.edit_len r.loaded c.examine-answer.ensures.3,
      changed_sound x.edit.now x.a.now x.b.now x.list.now _ _ f ba bb q _ _ changed,
    )

pub returns : goal.returns
returns c =
    let at-list = (goal.at.returns c).After-examine-answer in
    let x = c.args in
    let f = found (goal.at.returns c).After-examine-answer _ c.in_ok-answer.was in
    let ba = bytes_known x.a.now at-list.type_inv.a in
    let bb = bytes_known x.b.now at-list.type_inv.b in
    let passed = c.in_ok-perform.ensures.0 in
    let changed = c.in_ok-perform.ensures.1 in
    let q = edit_passed x.edit.now x.a.now x.b.now x.list.now _ _ f c.requires.edit_len passed (bytes_known x.edit.now c.type_inv.edit) in
    let same = links_taken c.examine-answer.new.links c.from-n.result (omega (arith, f.joined.most, f.joined.room, c.from-n.ensures)) in
    performed x.edit.now x.a.now x.b.now x.list.now _ _ f ba bb q _ _ changed _ _ c.requires.edit_len (unrefused x.edit.now x.a.now x.b.now x.list.now _ _ f c.requires.edit_len passed)
    (rw (same, c.from-n.ensures) at c.revise-kept.ensures)
