use Rattle.std.proofs.Common.{refl, sym, ◌∙◌, arith}
use Rattle.tables.specs.Definitions.Sizes.{node_rows}
use Rattle.tables.specs.Definitions.Tables.{first_fault}
use Rattle.tables.proofs.Laws.Search.{first_here, first_on, first_done}
use Rattle.tables.proofs.faults.first_fault.Goals as goal

pub loop-k-init : goal.loop-k-init
unfolding first_fault
loop-k-init c = refl

pub returns-then-row_faulty : goal.returns-then-row_faulty
returns-then-row_faulty c = sym (c.loop-k.invariant ∙ first_here _ c.loop-k.k node_rows (omega arith) (sym c.row_faulty.ensures ∙ c.if-row_faulty.true))

pub loop-k-preserved : goal.loop-k-preserved
loop-k-preserved c = c.loop-k.invariant ∙ first_on _ c.loop-k.k node_rows (omega arith) (sym c.row_faulty.ensures ∙ c.if-row_faulty.false)

pub returns : goal.returns
returns c = sym (c.loop-k.invariant ∙ first_done _ c.loop-k.k node_rows (omega arith))
