use Rattle.std.proofs.Common.{ℕ, ◌+◌, ◌-◌, Bool, ◌&&◌, eqb, get_or, refl, sym, ◌∙◌, ap, arith}
use Rattle.tables.specs.Definitions.Sizes.{list_size}
use Rattle.tables.specs.Definitions.Rows.{all_from}
use Rattle.tables.specs.Definitions.Lists.{zero_from}
use Rattle.tables.proofs.Laws.Search.{all_done}
use Rattle.lists.proofs.Laws.Zeros.{all_next, max_zero, and_true}
use Rattle.lists.proofs.zeros.zero_from.Goals as goal

pub loop-k-init : goal.loop-k-init
unfolding zero_from
loop-k-init c = refl

pub loop-k-preserved : goal.loop-k-preserved
loop-k-preserved c =
    let l = c.loop-k in
    let p = λ (j : ℕ). eqb (get_or c.args.list.now j 0) 0 in
    l.invariant ∙ all_next p l.k list_size (omega arith) (eqb l.most 0)
    ∙ ap (λ (b : Bool). b && all_from p (l.k + 1) (list_size - (l.k + 1))) (sym (ap (λ (n : ℕ). eqb n 0) c.max-most.ensures ∙ max_zero l.most (get_or c.args.list.now l.k 0)))

pub returns : goal.returns
returns c =
    let l = c.loop-k in
    sym (l.invariant ∙ ap (λ (b : Bool). eqb l.most 0 && b) (all_done _ l.k list_size (omega arith)) ∙ and_true (eqb l.most 0))
