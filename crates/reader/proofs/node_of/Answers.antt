-- The node in the row that is found.
use mathlib.Core.Path.{◌∙◌, ap}
use Rattle.reader.specs.Definitions.{found_of}
use Rattle.reader.proofs.Laws.{of_length, of_refused, of_nodes, row_numbered, row_missing}
use Rattle.reader.proofs.node_of.Goals as goal
use Rattle.reader.proofs.node_of.Goals.{then-t-ne-TABLE-via-then-t-ne-TABLE, then-t-ne-TABLE-via-else-t-ne-TABLE+then-k-gt-NODES}

pub returns-then-t-ne-TABLE : goal.returns-then-t-ne-TABLE
returns-then-t-ne-TABLE c =
    elim c.then-t-ne-TABLE.branch [
      | then-t-ne-TABLE-via-then-t-ne-TABLE w ↦ ap found_of (of_length _ _ _ w.if-t-ne-TABLE.true)
      | then-t-ne-TABLE-via-else-t-ne-TABLE+then-k-gt-NODES w ↦ ap found_of (of_refused _ _ _ w.if-t-ne-TABLE.false w.if-k-gt-NODES.true)
    ]

pub returns-in_err-row : goal.returns-in_err-row
returns-in_err-row c =
    let size = c.if-t-ne-TABLE.false in
    c.from_residual.ensures ∙ ap found_of (row_missing _ size _ (rw c.in_err-row.was at c.row_of.ensures) ∙ of_nodes _ _ _ size c.if-k-gt-NODES.false)

pub returns : goal.returns
returns c =
    let size = c.if-t-ne-TABLE.false in
    c.node_at.ensures ∙ ap found_of (row_numbered _ size _ _ (rw c.in_ok-row.was at c.row_of.ensures) ∙ of_nodes _ _ _ size c.if-k-gt-NODES.false)
