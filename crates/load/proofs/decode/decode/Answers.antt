use mathlib.Core.Path.{sym, ◌∙◌}
use borrow.Author.Rules.{rules}
use Rattle.load.specs.Laws.Decode.{progress_start, progress_room, progress_end, progress_full, progress_more}
use Rattle.load.proofs.decode.decode.Goals as goal

pub loop-k-init : goal.loop-k-init
loop-k-init c = progress_start (search rules)

pub returns-then-row_number-eq0 : goal.returns-then-row_number-eq0
returns-then-row_number-eq0 c = progress_end c.loop-k.invariant c.loop-k-test.true (sym c.row_number.ensures ∙ c.if-row_number-eq0.true)

pub enter-i-requires : goal.enter-i-requires
enter-i-requires c = let p = c.requires in (p.0, c.loop-k-test.true, progress_room c.loop-k.invariant p.1, c.loop-k.invariant.columns)

pub loop-k-preserved : goal.loop-k-preserved
loop-k-preserved c = progress_more c.loop-k.invariant (progress_room c.loop-k.invariant c.requires.1) c.loop-k-test.true (λ e. c.if-row_number-eq0.false (c.row_number.ensures ∙ e)) c.enter-i.ensures.0 c.enter-i.ensures.1

pub returns-after-loop-k : goal.returns-after-loop-k
returns-after-loop-k c = progress_full c.loop-k.invariant c.loop-k-test.false
