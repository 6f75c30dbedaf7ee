-- The definition goes by the same test.
use borrow.Author.Tests.{lt-ltb, le-ltb}
use Rattle.closest.specs.Chain.{sides}
use Rattle.closest.proofs.chain.sided.Goals as goal

pub returns-then-t-lt-HALF : goal.returns-then-t-lt-HALF
unfolding sides
returns-then-t-lt-HALF c = rw (lt-ltb _ _ c.if-t-lt-HALF.true)

pub returns-else-t-lt-HALF : goal.returns-else-t-lt-HALF
unfolding sides
returns-else-t-lt-HALF c = rw (le-ltb _ _ c.if-t-lt-HALF.false)
