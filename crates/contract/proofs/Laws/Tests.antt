-- Each of a call's own tests fits exactly where its condition holds.
use Rattle.std.specs.Prelude.{ℕ, ◌≤◌, ◌≡◌, refl, Bool, true, false, cond, not, ◌&&◌, List, [], ◌∷◌, ◌↔◌, eqb, leb, length, Some}
use Rattle.std.proofs.Common.{sym, ◌∙◌, inl, inr, arith, eq-eqb, ne_eqb, eqb-true, leb-true, le-leb}
use Rattle.std.proofs.lemmas.Bool.{false≢true, eqb-false, lt-leb, not-true}
use Rattle.matching.specs.Definitions.Nodes.{has}
use Rattle.tables.specs.Definitions.Sizes.{node_rows}
use Rattle.tables.specs.Definitions.Edits.{kind_of, master_of, number_of, edit_fields}
use Rattle.tables.specs.Laws.Rows.{and_split}
use Rattle.contract.specs.declared.Refusal.{Refusal}
use Rattle.contract.specs.declared.Refusal.TheVariants.{Length, TableA, TableB, Damaged, Unfinished}
use Rattle.contract.specs.Definitions.Answers.{refusal_number}
use Rattle.contract.specs.Definitions.Buffers.{Drawing, nodes_named}
use Rattle.contract.specs.Definitions.Shapes.{Test}
use Rattle.contract.specs.Definitions.Tests as tests
use Rattle.contract.specs.Definitions.Refusals.{same, own}
use Rattle.contract.specs.Definitions.Conditions.{Own}
use Rattle.contract.proofs.Laws.Order.{every}
use Rattle.contract.proofs.Laws.Table.{nothing}

-- The refusals with a general row; the others are for own tests.
abbrev pub generals : List Refusal
generals = Length ∷ TableA ∷ TableB ∷ Damaged ∷ Unfinished ∷ []

abbrev pub is_own : Refusal → Bool
is_own r = every (λ p. not (same r p)) generals

pub record Right (t : Test) : Type 0 where
  pub owned : is_own t.refusal ≡ true
  pub means : (d : Drawing) → (t.fits d ≡ true) ↔ t.Holds d

-- A property of every test.
abbrev pub AllTests : (Test → Type 0) → List Test → Type 0
AllTests P [] = Unit {0}
AllTests P (t ∷ ts) = P t × AllTests P ts

-- One of the tests fits, with 0, exactly where one of the conditions holds;
pub own_only : (r : Refusal) (ts : List Test) → AllTests Right ts → (d : Drawing) (v : ℕ) → own r ts d ≡ Some v → Own r ts d × (0 ≡ v)
unfolding own
own_only r [] w d v e = absurd (nothing e)
own_only r (t ∷ ts) w d v e = go (same r t.refusal) (t.fits d) refl refl e (own_only r ts w.1 d v)
  where
    later : Own r ts d × (0 ≡ v) → Own r (t ∷ ts) d × (0 ≡ v)
    later k = (inr k.0, k.1)

    go : (b c : Bool) → same r t.refusal ≡ b → t.fits d ≡ c → cond (b && c) (Some 0) (own r ts d) ≡ Some v → (own r ts d ≡ Some v → Own r ts d × (0 ≡ v)) → Own r (t ∷ ts) d × (0 ≡ v)
    go true true i j g k = (inl (eqb-true (refusal_number r) (refusal_number t.refusal) i, (w.0.means d).0 j), cc)
    go true false i j g k = later (k g)
    go false c i j g k = later (k g)

pub own_when : (r : Refusal) (ts : List Test) → AllTests Right ts → (d : Drawing) → Own r ts d → own r ts d ≡ Some 0
unfolding own
own_when r [] w d k = absurd k
own_when r (t ∷ ts) w d (inl k) = rw (eq-eqb (refusal_number r) (refusal_number t.refusal) k.0, (w.0.means d).1 k.1)
own_when r (t ∷ ts) w d (inr k) = go (same r t.refusal && t.fits d) (own_when r ts w.1 d k)
  where
    go : (b : Bool) → own r ts d ≡ Some 0 → cond b (Some 0) (own r ts d) ≡ Some 0
    go true i = refl
    go false i = i

-- its refusal has no general row.
pub own_owned : (r : Refusal) (ts : List Test) → AllTests Right ts → (d : Drawing) → Own r ts d → is_own r ≡ true
own_owned r [] w d k = absurd k
own_owned r (t ∷ ts) w d (inl k) = rw k.0 w.0.owned
own_owned r (t ∷ ts) w d (inr k) = own_owned r ts w.1 d k

-- Tests on what is known.
pub not_so : (t : Bool) → ¬ (t ≡ true) → not t ≡ true
not_so true h = absurd (h refl)
not_so false h = refl

not_means : (t : Bool) → (not t ≡ true) ↔ (t ≡ false)
not_means t = (not-true t, λ e. rw e)

-- The tests of an edit and of a node.
kind_right : (e : List ℕ) → Right (tests.kind e)
kind_right e = record { owned = refl; means = λ d. (to, from) }
  where
    k : ℕ
    k = kind_of e

    to : not (leb 1 k && leb k 4) ≡ true → ¬ ((1 ≤ k) × (k ≤ 4))
    to h r = false≢true (sym (not-true (leb 1 k && leb k 4) h) ∙ in_range)
      where
        in_range : (leb 1 k && leb k 4) ≡ true
        in_range = rw (le-leb 1 k r.0, le-leb k 4 r.1)

    from : ¬ ((1 ≤ k) × (k ≤ 4)) → not (leb 1 k && leb k 4) ≡ true
    from n = not_so (leb 1 k && leb k 4) (λ t. let p = and_split (leb 1 k) (leb k 4) t in n (leb-true 1 k p.0, leb-true k 4 p.1))

master_right : (m : ℕ) → Right (tests.master m)
master_right m = record { owned = refl; means = λ d. (λ h g. false≢true (sym (not-true (leb m 1) h) ∙ le-leb m 1 g), λ n. rw (lt-leb m 1 (omega arith))) }

zero_right : (n : ℕ) → Right (tests.zero_number n)
zero_right n = record { owned = refl; means = λ d. (eqb-true n 0, eq-eqb n 0) }

fields_right : (e : List ℕ) → Right (tests.fields e)
fields_right e = record { owned = refl; means = λ d. not_means (edit_fields e) }

unknown_right : (m n : ℕ) → Right (tests.unknown m n)
unknown_right m n = record { owned = refl; means = λ d. not_means (has n (nodes_named d m)) }

taken_right : (e : List ℕ) → Right (tests.taken e)
taken_right e = record {
  owned = refl;
  means = λ d. (
    (λ h. let p = and_split (eqb (kind_of e) 1) (has (number_of e) (nodes_named d (master_of e))) h in (eqb-true (kind_of e) 1 p.0, p.1)),
    (λ h. rw (eq-eqb (kind_of e) 1 h.0, h.1)),
  );
}

missing_right : (e : List ℕ) → Right (tests.missing e)
missing_right e = record {
  owned = refl;
  means = λ d. (
    (λ h.
        let p = and_split (not (eqb (kind_of e) 1)) (not (has (number_of e) (nodes_named d (master_of e)))) h in
        (eqb-false (kind_of e) 1 (not-true (eqb (kind_of e) 1) p.0), not-true (has (number_of e) (nodes_named d (master_of e))) p.1)),
    (λ h. rw (ne_eqb (kind_of e) 1 h.0, h.1)),
  );
}

full_right : (e : List ℕ) → Right (tests.full e)
full_right e = record {
  owned = refl;
  means = λ d. (
    (λ h.
        let p = and_split (eqb (kind_of e) 1) (eqb (length (nodes_named d (master_of e))) node_rows) h in
        (eqb-true (kind_of e) 1 p.0, eqb-true (length (nodes_named d (master_of e))) node_rows p.1)),
    (λ h. rw (eq-eqb (kind_of e) 1 h.0, eq-eqb (length (nodes_named d (master_of e))) node_rows h.1)),
  );
}

pub edit_right : (e : List ℕ) → AllTests Right (tests.of_edit e)
edit_right e = (kind_right e, (master_right (master_of e), (zero_right (number_of e), (fields_right e, (taken_right e, (missing_right e, (full_right e, tt)))))))

pub node_right : (m n : ℕ) → AllTests Right (tests.of_node m n)
node_right m n = (master_right m, (zero_right n, (unknown_right m n, tt)))
