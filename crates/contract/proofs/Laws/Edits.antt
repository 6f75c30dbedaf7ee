-- An edit that passes its tests is done, on the bytes of a drawing.
use Rattle.std.specs.Prelude.{ℕ, ◌≤◌, ◌≡◌, Bool, true, false, cond, not, ◌&&◌, List, [], ◌∷◌, eqb, length, Ok, Option, None, Some}
use Rattle.std.proofs.Math.Path.{refl}
use Rattle.std.proofs.Common.{◌∙◌, ap, arith, eq-eqb, ne_eqb, le-leb}
use Rattle.matching.specs.Definitions.Nodes.{has}
use Rattle.matching.specs.Definitions.Links.{common}
use Rattle.tables.specs.Definitions.Sizes.{edit_size}
use Rattle.tables.specs.Definitions.Edits.{kind_of, master_of, number_of}
use Rattle.tables.proofs.Laws.ListCode.{common_room}
use Rattle.tables.proofs.Laws.Edits.{Passes}
use Rattle.contract.specs.declared.Refusal.{Refusal}
use Rattle.contract.specs.Definitions.Answers.{order}
use Rattle.contract.specs.Definitions.Buffers.{Drawing, Good, links, buffers, nodes_named}
use Rattle.contract.specs.Definitions.Shapes.{Test, Outcome, IsDone, Shape, turn}
use Rattle.contract.specs.Definitions.Tests as tests
use Rattle.contract.specs.Definitions.Requests.{redrawn, edit_shape, edit}
use Rattle.contract.specs.Definitions.Refusals.{lengths_right, same, own, first_of}
use Rattle.contract.specs.Definitions.Calls.{call}
use Rattle.contract.specs.Definitions.Drawing.{shown}
use Rattle.contract.proofs.Laws.Tests.{is_own}
use Rattle.contract.proofs.Laws.Refusals.{Unfit}
use Rattle.contract.proofs.Laws.Places.{pick, own_answer}
use Rattle.contract.proofs.Laws.Drawing.{drawn_room}
use Rattle.contract.proofs.Laws.Cases.{by_nodes}

-- Where no own test fits, none answers.
unfit_own : (r : Refusal) (d : Drawing) (ts : List Test) → Unfit d ts → own r ts d ≡ None
unfolding own
unfit_own r d [] u = refl
unfit_own r d (t ∷ ts) u = rw u.0 (go (same r t.refusal) (unfit_own r d ts u.1))
  where
    go : (b : Bool) → own r ts d ≡ None → cond (b && false) (Some 0) (own r ts d) ≡ None
    go true h = h
    go false h = h

first_none : (f : Refusal → Option ℕ) → ((r : Refusal) → f r ≡ None) → (rs : List Refusal) → first_of f rs ≡ None
unfolding first_of
first_none f h [] = refl
first_none f h (r ∷ rs) = rw (h r) (first_none f h rs)

unfit_answer : (x : Shape) (d : Drawing) → Unfit d x.tests → own_answer x d ≡ None
unfolding own_answer
unfit_answer x d u = first_none (λ r. own r x.tests d) (λ r. unfit_own r d x.tests u) (pick is_own order)

module _ (d : Drawing) (e : List ℕ) (m : master_of e ≤ 1) (p : Passes e (nodes_named d (master_of e))) where
  edit_unfit : Unfit d (tests.of_edit e)
  edit_unfit =
      let k = either (eqb (kind_of e) 1) (has (number_of e) (nodes_named d (master_of e))) p.known in (
        rw (le-leb 1 (kind_of e) p.least, le-leb (kind_of e) 4 p.most),
        (rw (le-leb (master_of e) 1 m), (ne_eqb (number_of e) 0 (λ z. omega (arith, p.number)), (rw p.fields, (k.0, (k.1, (p.room, tt)))))),
      )
    where
      either : (t k : Bool) → cond t k (not k) ≡ false → ((t && k) ≡ false) × ((not t && not k) ≡ false)
      either true k h = (h, refl)
      either false k h = (refl, h)

  -- The drawing is redrawn,
  pub edit_shown : Good d → call (edit_shape e) (buffers d) ≡ shown (turn (Ok (common (links d) (links (redrawn e d)))) (e ∷ []) (redrawn e d))
  unfolding lengths_right
  edit_shown g = by_nodes d g (edit e) (p.bytes, tt) tt (eq-eqb (length e) edit_size p.size) refl ∙ rw (unfit_answer (edit_shape e) d edit_unfit)

  -- and the call is done.
  pub edit_done : Good d → IsDone (call (edit_shape e) (buffers d))
  edit_done g = omega (arith, ap (λ (o : Outcome). o.code) (edit_shown g), (common_room (links d) (links (redrawn e d))).0, drawn_room d g)
