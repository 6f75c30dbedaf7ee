use Rattle.std.proofs.Common.{refl, sym, ◌∙◌, arith}
use Rattle.matching.specs.Definitions.Sizes.{link_rows}
use Rattle.tables.specs.Definitions.Lists.{first_difference}
use Rattle.tables.proofs.Laws.Search.{first_here, first_on, first_done}
use Rattle.lists.proofs.compare.first_difference.Goals as goal

pub loop-row-init : goal.loop-row-init
unfolding first_difference
loop-row-init c = refl

pub row_differs-requires : goal.row_differs-requires
row_differs-requires c = (c.requires, omega arith)

pub returns-then-row_differs : goal.returns-then-row_differs
returns-then-row_differs c =
    sym (c.loop-row.invariant ∙ first_here _ c.loop-row.row link_rows (omega arith) (sym c.row_differs.ensures ∙ c.if-row_differs.true))

pub loop-row-preserved : goal.loop-row-preserved
loop-row-preserved c =
    c.loop-row.invariant ∙ first_on _ c.loop-row.row link_rows (omega arith) (sym c.row_differs.ensures ∙ c.if-row_differs.false)

pub returns : goal.returns
returns c = sym (c.loop-row.invariant ∙ first_done _ c.loop-row.row link_rows (omega arith))
