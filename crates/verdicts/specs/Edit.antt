-- What an edit is answered with once the list is known to be finished, and what it leaves.
use Rattle.std.specs.Prelude.{ℕ, ◌≡◌, Bool, false, cond, List, eqb, length, Option, Some, is_some, Result, Ok, MatchResult}
use Rattle.matching.specs.Definitions.Nodes.{Node, each, has}
use Rattle.tables.specs.Definitions.Sizes.{node_rows}
use Rattle.tables.specs.Definitions.Edits.{kind_of, master_of, number_of, edit_fields, edit_table}
use Rattle.tables.specs.Laws.Changes.{change_of, arrives}
use Rattle.contract.specs.declared.Refusal.{Refusal}
use Rattle.contract.specs.declared.Refusal.TheVariants.{Kind, Master, Field, Number, Full}
use Rattle.contract.specs.Definitions.Answers.{Verdict, refused}
use Rattle.contract.specs.Definitions.Buffers.{drawing, master_named}
use Rattle.contract.specs.Definitions.Tests.{kind}

-- 9 and 10, by whether the edit is an arrival, its number is there, and its table is full. Let pass where neither fits.
unfoldable pub place_answer : Bool → Bool → Bool → Verdict
place_answer arrival there full =
    cond arrival
    (cond there (refused Number 0) (cond full (refused Full 0) (Ok tt)))
    (cond there (Ok tt) (refused Number 0))

-- The row of the edit's node, where they let it pass: that of a node which is no arrival.
abbrev pub Placed : Bool → ℕ → Option ℕ → Result ℕ Refusal → Type 0
Placed arrival nodes row r = MatchResult r
    (λ k. (place_answer arrival (is_some row) (eqb nodes node_rows) ≡ Ok tt) × (arrival ≡ false → row ≡ Some k))
    (λ p. place_answer arrival (is_some row) (eqb nodes node_rows) ≡ refused p 0)

-- 8, and then these, in the nodes of the edit's master.
unfoldable pub node_answer : List ℕ → List Node → Verdict
node_answer e A =
    cond (eqb (number_of e) 0) (refused Field 0)
    (cond (edit_fields e) (place_answer (arrives (change_of (kind_of e))) (has (number_of e) A) (eqb (length A) node_rows)) (refused Field 0))

-- 7, and then these.
unfoldable pub master_answer : List ℕ → List Node → List Node → Verdict
master_answer e A B = cond (eqb (master_of e) 0) (node_answer e A) (cond (eqb (master_of e) 1) (node_answer e B) (refused Master 0))

-- 6, and then these.
unfoldable pub edit_answer : List ℕ → List Node → List Node → Verdict
edit_answer e A B = cond ((kind e).fits (drawing A B)) (refused Kind 0) (master_answer e A B)

-- The table t of the edit's master then: changed where the edit is done, else as it was.
abbrev pub Applied : List ℕ → List ℕ → List ℕ → Verdict → Type 0
Applied e t t' r = MatchResult r (λ v. t' ≡ edit_table e t) (λ p. t' ≡ t)

-- The table of the edit's master is changed, the other one stays.
pub record Changed (e a b a' b' : List ℕ) : Type 0 where
  pub in_a : a' ≡ each (edit_table e a) a (master_named (master_of e))
  pub in_b : b' ≡ each b (edit_table e b) (master_named (master_of e))

-- Both tables then.
abbrev pub Performed : List ℕ → List ℕ → List ℕ → List ℕ → List ℕ → Verdict → Type 0
Performed e a b a' b' r = MatchResult r (λ v. Changed e a b a' b') (λ p. (a' ≡ a) × (b' ≡ b))
