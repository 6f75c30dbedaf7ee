-- The reader that `new` makes is at the first row, and what it reads k nodes on is node k.
use mathlib.Core.Path.{◌∙◌, ap}
use Prim.Native.Nat.{ℕ}
use mathlib.Core.List.{List}
use Rattle.std.proofs.Common.{Bor}
use Rattle.reader.specs.Definitions.{row_after, node_at, found_of}
use Rattle.reader.proofs.Theorems.{read_on}
use Rattle.reader.proofs.nth_node.Goals as goal

pub returns : goal.returns
returns c =
    let k = c.args.k in
    c.read.ensures
    ∙ ap (λ (x : Bor (List ℕ)). found_of (node_at x.now c.skip.result.row)) (c.skip.ensures.0 ∙ c.new.ensures.0)
    ∙ ap (λ (i : ℕ). found_of (node_at c.args.table.now i)) (c.skip.ensures.1 ∙ ap (λ (i : ℕ). row_after i k) c.new.ensures.1)
    ∙ ap found_of (read_on c.args.table.now k)
