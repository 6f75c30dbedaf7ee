-- The definition goes by the same test.
use borrow.Author.Tests.{lt-ltb, le-ltb}
use Rattle.closest.specs.Nearest.{nearer}
use Rattle.closest.proofs.nearest.closer.Goals as goal

pub returns-then-c-near : goal.returns-then-c-near
unfolding nearer
returns-then-c-near c = rw (lt-ltb _ _ c.if-c-near.true)

pub returns : goal.returns
unfolding nearer
returns c = rw (le-ltb _ _ c.if-c-near.false)
