-- The definition goes by the same test.
use borrow.Author.Tests.{eq-eqb, ne_eqb}
use Rattle.closest.specs.Nearest.{met}
use Rattle.closest.proofs.nearest.met.Goals as goal

pub returns-then-best-eq-FAR : goal.returns-then-best-eq-FAR
unfolding met
returns-then-best-eq-FAR c = rw (eq-eqb _ _ c.if-best-eq-FAR.true)

pub returns : goal.returns
unfolding met
returns c = rw (ne_eqb _ _ c.if-best-eq-FAR.false)
