-- Good rows, zero rows after them and distinct numbers leave no fault.
use Rattle.std.proofs.Common.{ℕ, ◌+◌, ◌*◌, ◌≤◌, ◌<◌, ◌≡◌, true, length, sym, ◌∙◌}
use mathlib.Core.Bool.{false≢true}
use native.Mathlib.Omega.{arith}
use Rattle.matching.specs.Definitions.Rows.{size}
use Rattle.tables.specs.Definitions.Tables.{nodes_in, fields_good}
use Rattle.tables.specs.Definitions.Sizes.{node_size}
use Rattle.tables.proofs.Laws.Accepted.{room}
use Rattle.load.specs.Laws.Sound.{faultless, no_more, sorts_good}
use Rattle.load.proofs.fault.sound.Goals as goal
use Rattle.load.proofs.fault.sound.Goals.{then-rows_good, else-rows_good}

pub rows_good-requires : goal.rows_good-requires
rows_good-requires c = let p = c.requires in (p.0, omega (arith, p.1.count, room c.args.t.now))

pub returns-then-rows_zero : goal.returns-then-rows_zero
returns-then-rows_zero c =
    let t = c.args.t.now in
    let r = c.args.r in
    let named = c.requires.1 in
    elim c.if-rows_good.branch [
      | then-rows_good w ↦
          let zeros = w.rows_zero.ensures (sym w.value-is ∙ c.if-rows_zero.true) in
          let least : length (nodes_in t) ≤ size r.on + size r.off = no_more t _ zeros in
          let good : (k : ℕ) → k < length (nodes_in t) → fields_good t (node_size * k) ≡ true = λ k l. c.rows_good.ensures w.if-rows_good.true k (omega arith) in
          (λ h. faultless t good (λ k l m. zeros k (omega (arith, named.count)) m) (named.unique (sorts_good t good) (c.index.ensures.0 h)), c.index.ensures.1)
      | else-rows_good w ↦ absurd (false≢true (sym w.if-rows_good.false ∙ sym w.value-is ∙ c.if-rows_zero.true))
    ]
