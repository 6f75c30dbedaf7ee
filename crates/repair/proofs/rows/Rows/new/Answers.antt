-- A master's rows of a sort are the set's.
use Prim.Native.Nat.{ℕ, ◌≤◌, ◌*◌, ◌/◌}
use mathlib.Core.Path.{◌≡◌}
use mathlib.Core.List.{List}
use lib.IntN.{ℤ}
use Rattle.matching.specs.declared.Spans.{Spans}
use Rattle.matching.specs.declared.Master.{Master}
use Rattle.matching.specs.declared.Master.TheVariants.{A as master_a, B as master_b}
use Rattle.matching.specs.Definitions.Rows.{Fit, range}
use Rattle.matching.specs.Definitions.Sizes.{set_rows, block_rows}
use native.Mathlib.Omega.{arith}
use Rattle.repair.proofs.rows.Rows.new.Goals as goal

bounds : {ns : List ℕ} {at : List (List ℤ)} {cs : List ℕ} {s : Spans} → Fit ns at cs s → (m : Master)
    → ((range s m).from ≤ (range s m).to) × ((range s m).to ≤ set_rows) × ((range s m).from ≡ (range s m).from / block_rows * block_rows)
bounds f master_a = (f.spans.order_a, omega (arith, f.spans), f.spans.block_a)
bounds f master_b = (f.spans.order_b, f.spans.end, f.spans.block_b)

pub invariant_of-result : goal.invariant_of-result
invariant_of-result c =
    let f = c.spans.ensures in
    let b = bounds f c.args.master in
    record {
      numbers = c.args.set.now.numbers;
      positions = c.args.set.now.positions;
      order = rw c.range-r.ensures b.0;
      end = rw c.range-r.ensures b.1;
      begins = rw c.range-r.ensures b.2;
      inside = rw c.range-r.ensures (λ k l m. f.inside c.args.master k (l, m));
    }
