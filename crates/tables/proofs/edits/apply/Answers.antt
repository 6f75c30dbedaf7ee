-- Each arm is the effect of its change, on the rows that the requires counts.
use Prim.Native.Nat.{ℕ, ◌+◌, ◌*◌}
use mathlib.Core.Path.{refl, ◌∙◌, ap, ap₂}
use mathlib.Core.List.{List}
use native.Mathlib.Omega.{arith}
use lib.ListN.{take, drop, length-take, length-drop}
use Rattle.tables.specs.declared.edits.Change.TheVariants.{Arrival, Departure, Move, Capacity}
use Rattle.tables.specs.Definitions.Sizes.{position_size, node_x, node_capacity, node_size, edit_number, edit_x, edit_capacity}
use Rattle.tables.specs.Definitions.Rows.{put}
use Rattle.tables.specs.Definitions.Edits.{closed}
use Rattle.tables.proofs.Laws.Puts.{part_from}
use Rattle.tables.specs.Laws.Changes.{stays, table_change}
use Rattle.tables.proofs.edits.apply.Goals as goal

pub overflow_mul-count : goal.overflow_mul-count
overflow_mul-count c = let h = c.requires.room c.in-Arrival.is in omega arith

pub copy_at-requires : goal.copy_at-requires
copy_at-requires c = let h = c.requires.room c.in-Arrival.is in simp (length-take, length-drop) (omega arith)

pub close_row-requires : goal.close_row-requires
close_row-requires c = (c.requires.table, c.requires.row (stays Departure c.in-Departure.is refl))

pub overflow_mul-place : goal.overflow_mul-place
overflow_mul-place c = let h = c.requires.row (stays Move c.in-Move.is refl) in omega arith

pub overflow_add-place : goal.overflow_add-place
overflow_add-place c = let h = c.requires.row (stays Move c.in-Move.is refl) in omega arith

pub copy_at-requires-in-Move : goal.copy_at-requires-in-Move
copy_at-requires-in-Move c = let h = c.requires.row (stays Move c.in-Move.is refl) in simp (length-take, length-drop) (omega arith)

pub overflow_mul-place-in-Capacity : goal.overflow_mul-place-in-Capacity
overflow_mul-place-in-Capacity c = let h = c.requires.row (stays Capacity c.in-Capacity.is refl) in omega arith

pub overflow_add-place-in-Capacity : goal.overflow_add-place-in-Capacity
overflow_add-place-in-Capacity c = let h = c.requires.row (stays Capacity c.in-Capacity.is refl) in omega arith

pub copy_at-requires-in-Capacity : goal.copy_at-requires-in-Capacity
copy_at-requires-in-Capacity c = let h = c.requires.row (stays Capacity c.in-Capacity.is refl) in simp (length-take, length-drop) (omega arith)

pub returns-in-Arrival : goal.returns-in-Arrival
returns-in-Arrival c =
    let told = c.in-Arrival.is in
    let e = c.args.edit.now in
    let t = c.args.t.now in
    c.copy_at.ensures ∙ ap₂ (λ (n : ℕ) (vs : List ℕ). put t (node_size * n) vs) c.requires.nodes (part_from edit_number e) ∙ table_change Arrival e c.requires.change told t

pub returns-in-Departure : goal.returns-in-Departure
returns-in-Departure c =
    let told = c.in-Departure.is in
    let t = c.args.t.now in
    c.close_row.ensures ∙ ap (closed t) (c.requires.there (stays Departure told refl)) ∙ table_change Departure c.args.edit.now c.requires.change told t

pub returns-in-Move : goal.returns-in-Move
returns-in-Move c =
    let told = c.in-Move.is in
    let e = c.args.edit.now in
    let t = c.args.t.now in
    c.copy_at-in-Move.ensures
    ∙ ap (λ (n : ℕ). put t (node_size * n + node_x) (take (position_size + position_size) (drop edit_x e))) (c.requires.there (stays Move told refl))
    ∙ table_change Move e c.requires.change told t

pub returns-in-Capacity : goal.returns-in-Capacity
returns-in-Capacity c =
    let told = c.in-Capacity.is in
    let e = c.args.edit.now in
    let t = c.args.t.now in
    c.copy_at-in-Capacity.ensures
    ∙ ap₂ (λ (n : ℕ) (vs : List ℕ). put t (node_size * n + node_capacity) vs) (c.requires.there (stays Capacity told refl)) (part_from edit_capacity e)
    ∙ table_change Capacity e c.requires.change told t
