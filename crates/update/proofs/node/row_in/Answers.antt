-- There is no such node, or it is of another sort, or it is of the sort.
use Rattle.std.proofs.Common.{sym, ◌∙◌}
use Rattle.update.proofs.Laws.Node.{sort_found, sort_other, sort_none}
use Rattle.update.proofs.node.row_in.Goals as goal

pub returns-in_err-k : goal.returns-in_err-k
returns-in_err-k c = rw c.from_residual.ensures (sort_none c.args.t.now c.args.z c.args.sort (rw c.in_err-k.was at c.row_of.ensures))

pub returns-then-sort_in-sort : goal.returns-then-sort_in-sort
returns-then-sort_in-sort c =
    sort_other c.args.t.now c.args.z c.args.sort _ (rw c.in_ok-k.was at c.row_of.ensures) c.requires.1 (λ e. c.if-sort_in-sort.true (c.sort_in.ensures ∙ e))

pub returns : goal.returns
returns c = sort_found c.args.t.now c.args.z c.args.sort _ (rw c.in_ok-k.was at c.row_of.ensures) c.requires.1 (sym c.sort_in.ensures ∙ c.if-sort_in-sort.false)
