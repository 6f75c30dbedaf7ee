-- Undo: the edit that takes another back, and what is held after both.
use Rattle.std.specs.Prelude.{ℕ, ◌≡◌, pos}
use mathlib.Core.List.{List, ◌∷◌, Memᴰ}
use Rattle.matching.specs.Definitions.Nodes.{Node}
use Rattle.matching.specs.Definitions.Edits.{moved, resized}
use Rattle.tables.specs.Definitions.Tables.{node_bytes}
use Rattle.tables.specs.Definitions.Edits.{kind_of, master_of, number_of, of_kind}
use Rattle.contract.specs.Definitions.Buffers.{Buffers, drawn, nodes_named}
use Rattle.contract.specs.Definitions.Shapes.{Outcome, IsDone}
use Rattle.contract.specs.Definitions.Calls.{edit_call}

-- An edit's ten bytes: kind, master, and a node's row.
abbrev pub edit_bytes : ℕ → ℕ → Node → List ℕ
edit_bytes kind master v = kind ∷ master ∷ node_bytes v

-- The edit of each kind that a node v makes, in the master m; what a kind does not use is zero.
abbrev pub arrival_of : ℕ → Node → List ℕ
arrival_of m v = edit_bytes 1 m v

abbrev pub departure_of : ℕ → Node → List ℕ
departure_of m v = edit_bytes 2 m (resized 0 0 (moved (pos 0) (pos 0) v))

abbrev pub move_of : ℕ → Node → List ℕ
move_of m v = edit_bytes 3 m (resized 0 0 v)

abbrev pub resize_of : ℕ → Node → List ℕ
resize_of m v = edit_bytes 4 m (moved (pos 0) (pos 0) v)

-- The call Edit on what is held.
abbrev pub edit_on : List ℕ → Buffers → Outcome
edit_on e h = edit_call h.a h.b h.list e

-- v is the node that e names, as the tables held before e have it. An arrival's node is not in them: its number is all that is asked.
pub record Named (e : List ℕ) (h : Buffers) (v : Node) : Type 0 where
  pub number : v.number ≡ number_of e
  pub stands : ¬ (kind_of e ≡ 1) → Memᴰ v (nodes_named (drawn h) (master_of e))

-- The edit back, for each kind of e: the departure of what arrived, the arrival of what departed, the move to where v stood,
-- the capacity and the sort that v had.
unfoldable pub back : List ℕ → Node → List ℕ
back e v = of_kind (kind_of e) (departure_of (master_of e) v) (arrival_of (master_of e) v) (move_of (master_of e) v) (resize_of (master_of e) v)

-- The edit e on what is held, and then the edit back,
abbrev pub both_on : List ℕ → Node → Buffers → Outcome
both_on e v h = edit_on (back e v) (edit_on e h).held

-- is done as well. The list is then as it was; and so is every byte of the tables, unless e is a departure, whose node comes back last.
pub record Undone (e : List ℕ) (v : Node) (h : Buffers) : Type 0 where
  pub done : IsDone (both_on e v h)
  pub list : (both_on e v h).held.list ≡ h.list
  pub all : ¬ (kind_of e ≡ 2) → (both_on e v h).held ≡ h
