-- Each field is what its callee says.
use mathlib.Core.Path.{◌∙◌, ap, ap₂}
use mathlib.Core.List.{[], ◌∷◌}
use lib.ListN.{set}
use lib.IntN.{ℤ}
use Rattle.matching.proofs.Laws.Widths.{back}
use Rattle.tables.specs.Definitions.Tables.{node_from, row_number}
use Rattle.load.proofs.decode.store.Goals as goal

pub returns : goal.returns
unfolding node_from row_number
returns c = let a = c.args in
    let x = c.position_at in
    let y = c.position_at-2 in
    record {
      number = ap (set a.ns.now a.i) c.row_number.ensures;
      position = ap (set a.at.now a.i) (ap₂ (λ (u v : ℤ). u ∷ v ∷ []) (back x.result x.type_inv ∙ x.ensures) (back y.result y.type_inv ∙ y.ensures));
      capacity = ap (set a.cs.now a.i) c.capacity_in.ensures;
    }
