-- What an edit asks for, as code holds it, and when it can be applied to a table.
use Rattle.std.specs.Prelude.{ℕ, ◌+◌, ◌*◌, ◌<◌, ◌≤◌, ◌≡◌, Bool, ◌&&◌, List, Option, Result, MatchOption, MatchResult, eqb, length, take, drop}
use Rattle.std.proofs.Math.Path.{refl, sym, ap}
use Rattle.std.proofs.Common.{◌∙◌, arith}
use Rattle.std.proofs.Math.Bool.{true, false, cond}
use Rattle.matching.specs.declared.Master.{Master}
use Rattle.matching.specs.declared.Master.TheVariants.{A as master_a, B as master_b}
use Rattle.matching.specs.Definitions.Nodes.{place}
use Rattle.tables.specs.declared.edits.Change.{Change}
use Rattle.tables.specs.declared.edits.Change.TheVariants.{Arrival, Departure, Move, Capacity}
use Rattle.tables.specs.declared.edits.UnknownKind.{UnknownKind}
use Rattle.tables.specs.Definitions.Sizes.{position_size, node_x, node_capacity, node_size, node_rows, table_size, edit_number, edit_x, edit_capacity, edit_size}
use Rattle.tables.specs.Definitions.Rows.{put}
use Rattle.tables.specs.Definitions.Tables.{nodes_in, capacity_good}
use Rattle.tables.specs.Definitions.Edits.{kind_of, number_of, of_kind, positions_zero, positions_good, capacity_field, edit_fields, closed, edit_table}

-- The change of each kind.
unfoldable pub change_of : ℕ → Change
change_of k = of_kind k Arrival Departure Move Capacity

-- A kind's byte as a change: 1 to 4 are kinds, and an error has a byte that is none.
abbrev pub Reads : ℕ → Result Change UnknownKind → Type 0
Reads k r = MatchResult r (λ c. (c ≡ change_of k) × (1 ≤ k) × (k ≤ 4)) (λ e. (e.0 ≡ k) × (1 ≤ k → 4 < k))

-- A master's byte as a master: 0 is A's, 1 is B's, and no other names one.
abbrev pub byte_of : Master → ℕ
byte_of master_a = 0
byte_of master_b = 1

abbrev pub Names : ℕ → Option Master → Type 0
Names m r = MatchOption r (1 < m) (λ x. byte_of x ≡ m)

-- A thing for each change.
abbrev pub of_change : {X : Type 0} → Change → X → X → X → X → X
of_change Arrival p q r s = p
of_change Departure p q r s = q
of_change Move p q r s = r
of_change Capacity p q r s = s

abbrev pub arrives : Change → Bool
arrives c = of_change c true false false false

-- The edit e, of the change c, can be applied to the table t, whose nodes are counted; its node stands in row p, an arrival's in none.
pub record Applies (c : Change) (e t : List ℕ) (count p : ℕ) : Type 0 where
  pub edit : length e ≡ edit_size
  pub table : length t ≡ table_size
  pub change : c ≡ change_of (kind_of e)
  pub nodes : count ≡ length (nodes_in t)
  pub room : c ≡ Arrival → count < node_rows
  pub there : (c ≡ Arrival → ⊥) → p ≡ place (number_of e) (nodes_in t)
  pub row : (c ≡ Arrival → ⊥) → p < node_rows

-- A change that is another one is no arrival.
pub stays : {c : Change} (d : Change) → c ≡ d → arrives d ≡ false → c ≡ Arrival → ⊥
stays d e f a = let t : true ≡ arrives d = ap arrives (sym a ∙ e) in let z : ◌≡◌ {A = ℕ} 0 1 = cc in omega arith

-- By kind as by change.
module _ (k : ℕ) where
  of_kind_lem : {X : Type 0} (p q r s : X) → of_kind k p q r s ≡ of_change (change_of k) p q r s
  unfolding change_of
  of_kind_lem p q r s = go (eqb k 1) (eqb k 2) (eqb k 3)
    where
      go : (t u v : Bool) → cond t p (cond u q (cond v r s)) ≡ of_change (cond t Arrival (cond u Departure (cond v Move Capacity))) p q r s
      go true u v = refl
      go false true v = refl
      go false false true = refl
      go false false false = refl

  pub arrives_kind : arrives (change_of k) ≡ eqb k 1
  arrives_kind = sym (of_kind_lem true false false false) ∙ go (eqb k 1) (eqb k 2) (eqb k 3)
    where
      go : (t u v : Bool) → cond t true (cond u false (cond v false false)) ≡ t
      go true u v = refl
      go false true v = refl
      go false false true = refl
      go false false false = refl

-- The rule of the fields and the effect on the table, by change.
abbrev fields_for : Change → List ℕ → Bool
fields_for d e =
    of_change d
    (positions_good e && capacity_good (capacity_field e))
    (positions_zero e && eqb (capacity_field e) 0)
    (positions_good e && eqb (capacity_field e) 0)
    (positions_zero e && capacity_good (capacity_field e))

abbrev table_for : Change → List ℕ → List ℕ → List ℕ
table_for d e t =
    of_change d
    (put t (node_size * length (nodes_in t)) (drop edit_number e))
    (closed t (place (number_of e) (nodes_in t)))
    (put t (node_size * place (number_of e) (nodes_in t) + node_x) (take (position_size + position_size) (drop edit_x e)))
    (put t (node_size * place (number_of e) (nodes_in t) + node_capacity) (drop edit_capacity e))

module _ {c : Change} (d : Change) (e : List ℕ) (is : c ≡ change_of (kind_of e)) (told : c ≡ d) where
  pub fields_change : fields_for d e ≡ edit_fields e
  unfolding edit_fields
  fields_change = ap (λ (x : Change). fields_for x e) (sym told ∙ is) ∙ sym (of_kind_lem (kind_of e) _ _ _ _)

  pub table_change : (t : List ℕ) → table_for d e t ≡ edit_table e t
  unfolding edit_table
  table_change t = ap (λ (x : Change). table_for x e t) (sym told ∙ is) ∙ sym (of_kind_lem (kind_of e) _ _ _ _)

-- Two tests of which the second is made only where the first holds.
pub both_taken : {p P q Q : Bool} → p ≡ true → p ≡ P → q ≡ Q → q ≡ (P && Q)
both_taken t e f = rw (← e, t) f

pub both_left : {p P : Bool} (Q : Bool) → p ≡ false → p ≡ P → p ≡ (P && Q)
both_left Q t e = rw (← e, t)
