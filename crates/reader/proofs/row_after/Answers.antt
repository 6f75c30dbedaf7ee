-- A row behind the last stays; any other goes on, and stops at the end.
use Rattle.reader.proofs.Laws.{after_refused, after_read}
use mathlib.Core.Path.{sym}
use native.Mathlib.Omega.{arith}
use Rattle.reader.proofs.row_after.Goals as goal

pub returns-then-k-gt-NODES : goal.returns-then-k-gt-NODES
returns-then-k-gt-NODES c = sym (after_refused _ _ c.if-k-gt-NODES.true)

pub returns : goal.returns
returns c = omega (arith, after_read c.args.k c.args.n c.if-k-gt-NODES.false)
