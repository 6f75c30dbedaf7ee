-- Edit, place by place, and when its change can be applied.
use Rattle.std.specs.Prelude.{ℕ, ◌≤◌, ◌≡◌, Bool, cond, ◌&&◌, List, eqb, length, Option, Some, None, is_some, Ok, Err}
use Rattle.std.proofs.Math.Path.{refl, sym}
use Rattle.std.proofs.Common.{◌∙◌, ap}
use Rattle.std.proofs.Math.Bool.{true, false, not}
use Rattle.std.proofs.Math.Decide.{ℕ_discrete}
use native.Mathlib.Omega.{arith}
use Rattle.std.proofs.Math.Dec.{leb}
use borrow.Author.Tests.{eq-eqb, ne_eqb, eqb-false, lt-leb}
use Rattle.tables.specs.declared.edits.Change.{Change}
use Rattle.tables.specs.declared.edits.Change.TheVariants.{Arrival, Departure, Move, Capacity}
use Rattle.matching.specs.declared.Master.TheVariants.{A as master_a, B as master_b}
use Rattle.matching.specs.declared.Master.{Master as Side}
use Rattle.matching.specs.Definitions.Nodes.{Node, each, has}
use Rattle.tables.specs.Definitions.Sizes.{node_rows, table_size, edit_size}
use Rattle.tables.specs.Definitions.Tables.{nodes_in}
use Rattle.tables.specs.Definitions.Edits.{kind_of, master_of, number_of, edit_fields}
use Rattle.tables.specs.Laws.Changes.{change_of, arrives, arrives_kind, Applies}
use Rattle.tables.specs.Laws.Find.{RowOf}
use Rattle.contract.specs.declared.Refused.{Refused}
use Rattle.contract.specs.declared.Refusal.TheVariants.{Field, Number, Full}
use Rattle.contract.specs.Definitions.Answers.{Answer, Verdict, refused}
use Rattle.contract.specs.Definitions.Buffers.{drawing}
use Rattle.contract.specs.Definitions.Requests.{edit_shape}
use Rattle.contract.specs.Definitions.Refusals.{given}
use Rattle.contract.proofs.Laws.Places.{own_answer}
use Rattle.verdicts.specs.Edit.{place_answer, node_answer, master_answer, edit_answer}

-- What a verdict refuses, as a call's answer.
abbrev refusal_in : Verdict → Option Answer
refusal_in (Ok v) = None
refusal_in (Err p) = Some (Err p)

-- The answers are the edit's own tests, tried from the top.
module _ (e : List ℕ) (A B : List Node) where
  in_master : (s : Side) → cond (eqb (master_of e) 0) master_a master_b ≡ s → (leb 1 (kind_of e) && leb (kind_of e) 4) ≡ true → leb (master_of e) 1 ≡ true
      → refusal_in (node_answer e (each A B s)) ≡ own_answer (edit_shape e) (drawing A B)
  unfolding node_answer place_answer own_answer
  in_master s m k h = rw (arrives_kind (kind_of e), m, k, h) (go (eqb (number_of e) 0) (edit_fields e) (eqb (kind_of e) 1) (has (number_of e) (each A B s)) (eqb (length (each A B s)) node_rows))
    where
      go : (z g k h f : Bool) → refusal_in (cond z (refused Field 0) (cond g (cond k (cond h (refused Number 0) (cond f (refused Full 0) (Ok tt))) (cond h (Ok tt) (refused Number 0))) (refused Field 0)))
          ≡ given Field (cond z (Some 0) (cond (not g) (Some 0) None)) (given Number (cond (k && h) (Some 0) (cond (not k && not h) (Some 0) None)) (given Full (cond (k && f) (Some 0) None) None))
      go true g k h f = refl
      go false false k h f = refl
      go false true true true f = refl
      go false true true false true = refl
      go false true true false false = refl
      go false true false true f = refl
      go false true false false f = refl

  pub edit_places : refusal_in (edit_answer e A B) ≡ own_answer (edit_shape e) (drawing A B)
  edit_places = go (leb 1 (kind_of e) && leb (kind_of e) 4) refl (ℕ_discrete (master_of e) 0) (ℕ_discrete (master_of e) 1)
    where
      go : (k : Bool) → (leb 1 (kind_of e) && leb (kind_of e) 4) ≡ k → Dec (master_of e ≡ 0) → Dec (master_of e ≡ 1) → refusal_in (edit_answer e A B) ≡ own_answer (edit_shape e) (drawing A B)
      go false k x y = unfold edit_answer own_answer in rw k
      go true k (yes x) y = ◌∙◌ {b = refusal_in (node_answer e A)} (unfold edit_answer master_answer in rw (k, eq-eqb (master_of e) 0 x)) (in_master master_a (rw (eq-eqb (master_of e) 0 x)) k (rw x))
      go true k (no x) (yes y) = ◌∙◌ {b = refusal_in (node_answer e B)} (unfold edit_answer master_answer in rw (k, ne_eqb (master_of e) 0 x, eq-eqb (master_of e) 1 y)) (in_master master_b (rw (ne_eqb (master_of e) 0 x)) k (rw y))
      go true k (no x) (no y) = unfold edit_answer master_answer own_answer in rw (k, ne_eqb (master_of e) 0 x, ne_eqb (master_of e) 1 y, lt-leb (master_of e) 1 (omega arith))

  -- An edit that is let pass fits at no place, and a refusal is what they give.
  pub places_passed : Ok tt ≡ edit_answer e A B → own_answer (edit_shape e) (drawing A B) ≡ None
  places_passed i = sym edit_places ∙ ap refusal_in (sym i)

  pub places_refuse : (p : Refused) → Err p ≡ edit_answer e A B → own_answer (edit_shape e) (drawing A B) ≡ Some (Err p)
  places_refuse p i = sym edit_places ∙ ap refusal_in (sym i)

-- Every change but an arrival.
pub no_arrival : (d : Change) → (d ≡ Arrival → ⊥) → arrives d ≡ false
no_arrival Arrival x = absurd (x refl)
no_arrival Departure x = refl
no_arrival Move x = refl
no_arrival Capacity x = refl

-- 9 and 10: an edit that they let pass has room for an arrival.
place_free : (a t f : Bool) → place_answer a t f ≡ Ok tt → a ≡ true → f ≡ false
unfolding place_answer
place_free true true f j x = absurd (let z : ◌≡◌ {A = ℕ} 0 1 = cc in omega arith)
place_free true false true j x = absurd (let z : ◌≡◌ {A = ℕ} 0 1 = cc in omega arith)
place_free true false false j x = refl
place_free false t f j x = absurd (let z : ◌≡◌ {A = ℕ} 0 1 = cc in omega arith)

-- A change of the table t, by what code knows of its node.
module _ (e t : List ℕ) (c : Change) (is : c ≡ change_of (kind_of e)) (n : ℕ) (r : Option ℕ) (counted : (n ≡ length (nodes_in t)) × (n ≤ node_rows)) (w : RowOf t (number_of e) r) where
  pub place_applies : (k : ℕ) → place_answer (arrives c) (is_some r) (eqb n node_rows) ≡ Ok tt → (arrives c ≡ false → r ≡ Some k) → length e ≡ edit_size → length t ≡ table_size → Applies c e t n k
  place_applies k j row size table = record {
    edit = size;
    table = table;
    change = is;
    nodes = counted.0;
    room = λ a. let f : n ≡ node_rows → ⊥ = eqb-false n node_rows (place_free (arrives c) (is_some r) (eqb n node_rows) j (ap arrives a)) in omega (arith, counted.1);
    there = λ o. rw (row (no_arrival c o)) at w.is;
    row = λ o. rw (row (no_arrival c o)) at w.within;
  }
