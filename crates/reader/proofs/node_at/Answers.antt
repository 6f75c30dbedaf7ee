-- A row by cases.
use mathlib.Core.Path.{sym, ◌∙◌, ap}
use mir.Syntax.{w16}
use mir.Facts.{to_z-of_z}
use Rattle.tables.specs.Definitions.Tables.{node_from, row_number}
use Rattle.std.specs.Prelude.{Some}
use Rattle.reader.specs.Definitions.{found_of}
use Rattle.reader.proofs.Laws.{node_length, node_behind, node_zero, node_there}
use Rattle.reader.proofs.node_at.Goals as goal
use Rattle.reader.proofs.node_at.Goals.{then-t-ne-TABLE-via-then-t-ne-TABLE, then-t-ne-TABLE-via-else-t-ne-TABLE+then-k-ge-NODES}

pub returns-then-t-ne-TABLE : goal.returns-then-t-ne-TABLE
returns-then-t-ne-TABLE c =
    elim c.then-t-ne-TABLE.branch [
      | then-t-ne-TABLE-via-then-t-ne-TABLE w ↦ ap found_of (node_length _ _ w.if-t-ne-TABLE.true)
      | then-t-ne-TABLE-via-else-t-ne-TABLE+then-k-ge-NODES w ↦ ap found_of (node_behind _ _ w.if-t-ne-TABLE.false w.if-k-ge-NODES.true)
    ]

pub returns-then-number-eq0 : goal.returns-then-number-eq0
returns-then-number-eq0 c = ap found_of (node_zero _ _ c.if-t-ne-TABLE.false c.if-k-ge-NODES.false (sym c.row_number-number.ensures ∙ c.if-number-eq0.true))

pub returns : goal.returns
unfolding node_from row_number
returns c =
    let across = c.position_at in
    let up = c.position_at-2 in
    (λ i. Some (record {
      number = c.row_number-number.ensures i;
      x = (to_z-of_z {w = w16} (record { sfits = across.type_inv }) ∙ across.ensures) i;
      y = (to_z-of_z {w = w16} (record { sfits = up.type_inv }) ∙ up.ensures) i;
      capacity = c.capacity_in.ensures i;
      sort = c.sort_in.ensures i;
    }))
    ∙ ap found_of (node_there _ _ c.if-t-ne-TABLE.false c.if-k-ge-NODES.false (λ e. c.if-number-eq0.false (c.row_number-number.ensures ∙ e)))
