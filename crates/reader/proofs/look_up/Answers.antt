-- The reader that `new` makes is at the first row, and a search from there is one among the nodes.
use mathlib.Core.Path.{◌∙◌, ap}
use Prim.Native.Nat.{ℕ}
use mathlib.Core.List.{List}
use Rattle.std.proofs.Common.{Bor}
use Rattle.reader.specs.Definitions.{node_of, found_of}
use Rattle.reader.proofs.Theorems.{find_first}
use Rattle.reader.proofs.look_up.Goals as goal

pub returns : goal.returns
returns c =
    let n = c.args.n in
    c.find.ensures
    ∙ ap (λ (x : Bor (List ℕ)). found_of (node_of x.now c.new.result.row n)) c.new.ensures.0
    ∙ ap (λ (k : ℕ). found_of (node_of c.args.table.now k n)) c.new.ensures.1
    ∙ ap found_of (find_first c.args.table.now n)
