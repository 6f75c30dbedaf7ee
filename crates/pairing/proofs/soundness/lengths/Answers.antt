-- Refused where a length is not the stated one.
use mathlib.Core.Path.{sym}
use Rattle.pairing.specs.Laws.Verdicts.{tables_length}
use Rattle.pairing.proofs.soundness.lengths.Goals as goal

pub returns-then-lengths_right : goal.returns-then-lengths_right
returns-then-lengths_right c = sym c.if-lengths_right.ensures

pub returns : goal.returns
returns c = rw c.into.ensures (tables_length _ _ _ (sym c.if-lengths_right.ensures))
