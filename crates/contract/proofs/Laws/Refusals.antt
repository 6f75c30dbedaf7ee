-- What is known where nothing is refused, place by place, and what a refusal is.
use Rattle.std.specs.Prelude.{ℕ, Bool, not, ◌&&◌, List, [], ◌∷◌, eqb, leb, length, Option, None, Some}
use Rattle.std.proofs.Math.Path.{◌≡◌, refl}
use Rattle.std.proofs.Math.Bool.{true, false, cond}
use Rattle.std.proofs.Common.{arith, eq-eqb, eqb-true, leb-true}
use Rattle.std.proofs.lemmas.Bool.{eqb-false, not-false}
use Rattle.matching.specs.declared.Master.{Master}
use Rattle.matching.specs.declared.Master.TheVariants.{A as master_a, B as master_b}
use Rattle.matching.specs.Definitions.Nodes.{each, has}
use Rattle.tables.specs.Definitions.Sizes.{edit_size}
use Rattle.tables.specs.Definitions.Fields.{Bytes}
use Rattle.tables.specs.Definitions.Tables.{first_fault, Accepted}
use Rattle.tables.specs.Definitions.Edits.{kind_of, master_of, number_of, edit_fields}
use Rattle.tables.specs.Laws.Rows.{and_split}
use Rattle.tables.proofs.Laws.Edits.{Passes}
use Rattle.contract.specs.Definitions.Answers.{Answer, refused, refusal_number, order}
use Rattle.contract.specs.declared.Refusal.{Refusal}
use Rattle.contract.specs.declared.Refusal.TheVariants.{Length, TableA, TableB, Damaged, Unfinished}
use Rattle.contract.specs.Definitions.Buffers.{Buffers, Lengths, lengths_of, Drawing, drawn, nodes_named}
use Rattle.contract.specs.Definitions.Shapes.{Test, Shape, outcome}
use Rattle.contract.specs.Definitions.Requests.{edit_shape}
use Rattle.contract.specs.Definitions.Refusals.{lengths_right, faulty_row, damaged_row, unfinished_row, same, own, place, refusal}
use Rattle.contract.specs.Definitions.Calls.{call}
use Rattle.contract.proofs.Laws.Order.{placed}
use Rattle.contract.proofs.Laws.Table.{none_fits}
use Rattle.contract.proofs.Laws.Tests.{is_own, Right, AllTests}
use Rattle.contract.proofs.Laws.Conditions.{stated, place-own}

-- None of the tests fits.
abbrev pub Unfit : Drawing → List Test → Type 0
Unfit d ts = AllTests (λ t. t.fits d ≡ false) ts

-- What holds where nothing is refused, by the place.
pub record Passed (s : Lengths) (x : Shape) (h : Buffers) : Type 0 where
  pub lengths : lengths_right s x ≡ true
  pub table_a : x.judges ≡ true → first_fault h.a ≡ None
  pub table_b : x.judges ≡ true → first_fault h.b ≡ None
  pub undamaged : damaged_row x h ≡ None
  pub finished : unfinished_row x h ≡ None
  pub tests : Unfit (drawn h) x.tests

unfilled : (b : Bool) (v : ℕ) (o : Option ℕ) → cond b (Some v) o ≡ None → (b ≡ false) × (o ≡ None)
unfilled true v o e = absurd (let z : ◌≡◌ {A = ℕ} 0 1 = cc in omega arith)
unfilled false v o e = (refl, e)

untested : (d : Drawing) (ts : List Test) → AllTests Right ts → ((r : Refusal) → is_own r ≡ true → own r ts d ≡ None) → Unfit d ts
unfolding own
untested d [] w f = tt
untested d (t ∷ ts) w f = (
  rw (eq-eqb (refusal_number t.refusal) (refusal_number t.refusal) refl) at (unfilled (same t.refusal t.refusal && t.fits d) 0 (own t.refusal ts d) (f t.refusal w.0.owned)).0,
  untested d ts w.1 (λ r o. (unfilled (same r t.refusal && t.fits d) 0 (own r ts d) (f r o)).1),
)

module _ (s : Lengths) (x : Shape) (h : Buffers) where
  pub no_refusal : AllTests Right x.tests → refusal s x h ≡ None → Passed s x h
  unfolding refusal faulty_row
  no_refusal right n =
      let f = none_fits (place s x h) order n in
      record {
        lengths = long (lengths_right s x) (f Length (placed Length));
        table_a = λ j. judged j (f TableA (placed TableA));
        table_b = λ j. judged j (f TableB (placed TableB));
        undamaged = f Damaged (placed Damaged);
        finished = f Unfinished (placed Unfinished);
        tests = untested (drawn h) x.tests right (λ r o. rw (place-own s x h r o) at (f r (placed r)));
      }
    where
      long : (b : Bool) → cond {A = Option ℕ} b None (Some 0) ≡ None → b ≡ true
      long true e = refl
      long false e = absurd (let z : ◌≡◌ {A = ℕ} 0 1 = cc in omega arith)

      judged : {o : Option ℕ} → x.judges ≡ true → cond x.judges o None ≡ None → o ≡ None
      judged j e = rw j at e

  -- A program that found a wrong length knows the refusal.
  pub wrong_lengths : lengths_right s x ≡ false → refusal s x h ≡ Some (refused Length 0)
  unfolding refusal
  wrong_lengths e = rw e

-- A call is refused, with every byte as it was, or done.
module _ (x : Shape) (h : Buffers) where
  pub call_refused : (r : Answer) → refusal (lengths_of h) x h ≡ Some r → call x h ≡ outcome r h x.others
  unfolding call
  call_refused r e = rw e

  pub wrong_call : lengths_right (lengths_of h) x ≡ false → call x h ≡ outcome (refused Length 0) h x.others
  wrong_call e = call_refused (refused Length 0) (wrong_lengths (lengths_of h) x h e)

  pub call-done : refusal (lengths_of h) x h ≡ None → call x h ≡ x.done h
  unfolding call
  call-done e = rw e

-- An edit that is not refused.
pub edit_passes : (s : Lengths) (e : List ℕ) (h : Buffers) → Bytes e → Passed s (edit_shape e) h → Passes e (nodes_named (drawn h) (master_of e))
edit_passes s e h b u =
    let k = and_split (leb 1 (kind_of e)) (leb (kind_of e) 4) (not-false (leb 1 (kind_of e) && leb (kind_of e) 4) u.tests.0) in
    let z : number_of e ≡ 0 → ⊥ = eqb-false (number_of e) 0 u.tests.1.1.0 in
    record {
      bytes = b;
      size = eqb-true (length e) edit_size (stated s (edit_shape e) u.lengths).own;
      least = leb-true 1 (kind_of e) k.0;
      most = leb-true (kind_of e) 4 k.1;
      number = omega arith;
      fields = not-false (edit_fields e) u.tests.1.1.1.0;
      known = either (eqb (kind_of e) 1) (has (number_of e) (nodes_named (drawn h) (master_of e))) u.tests.1.1.1.1.0 u.tests.1.1.1.1.1.0;
      room = u.tests.1.1.1.1.1.1.0;
    }
  where
    either : (t k : Bool) → (t && k) ≡ false → (not t && not k) ≡ false → cond t k (not k) ≡ false
    either true k i j = i
    either false k i j = j

-- The tables that a call judges and lets pass are accepted.
pub accepted : (x : Shape) (h : Buffers) → Passed (lengths_of h) x h → x.judges ≡ true → (s : Master) → Bytes (each h.a h.b s) → Accepted (each h.a h.b s)
accepted x h u j master_a b = record { bytes = b; size = (stated (lengths_of h) x u.lengths).a; faultless = u.table_a j }
accepted x h u j master_b b = record { bytes = b; size = (stated (lengths_of h) x u.lengths).b; faultless = u.table_b j }
