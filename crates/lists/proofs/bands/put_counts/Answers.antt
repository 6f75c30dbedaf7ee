use Rattle.std.proofs.Common.{◌*◌, sym, ◌∙◌, arith}
use Rattle.tables.specs.Definitions.Sizes.{count_size}
use Rattle.tables.specs.Definitions.Fields.{nat_bytes}
use Rattle.tables.specs.Laws.Fields.{nat_length}
use Rattle.tables.proofs.Laws.Puts.{row_start, row_turn, row_end}
use Rattle.lists.proofs.bands.put_counts.Goals as goal

pub loop-k-init : goal.loop-k-init
loop-k-init c = (c.requires.0, row_start (nat_bytes count_size) count_size (nat_length count_size) _ _ (omega arith))

pub loop-k-preserved : goal.loop-k-preserved
loop-k-preserved c =
    let l = c.loop-k in (
      c.put_nat.auto.s ∙ l.invariant.0,
      rw c.put_nat.ensures (row_turn (nat_bytes count_size) count_size (nat_length count_size) l.counts _ l.k 0 (omega arith) (omega arith)) ∙ l.invariant.1,
    )

pub returns : goal.returns
returns c =
    let l = c.loop-k in
    sym (row_end (nat_bytes count_size) count_size (nat_length count_size) l.counts _ (count_size * l.k) l.k (omega arith)) ∙ l.invariant.1
