-- Each way out is one of its sides.
use native.Mathlib.Omega.{arith}
use Rattle.matching.specs.declared.Master.TheVariants.{A as master_a, B as master_b}
use Rattle.closest.proofs.nearest.partner.Goals as goal

pub scan-requires : goal.scan-requires
scan-requires c = let p = c.requires in let q = p.1 master_b in (p.0.inside, q.0, q.1)

pub returns-then-t-lt-HALF : goal.returns-then-t-lt-HALF
returns-then-t-lt-HALF c = record { best = c.scan.result; onto_b = λ l. rw c.unwrap_or-near.ensures at c.scan.ensures; onto_a = λ l. absurd (omega (arith, c.if-t-lt-HALF.true)); is = c.met.ensures }

pub scan-requires-2 : goal.scan-requires-2
scan-requires-2 c = let p = c.requires in let q = p.1 master_a in (p.0.inside, q.0, q.1)

pub returns : goal.returns
returns c = record { best = c.scan-2.result; onto_b = λ l. absurd (omega (arith, c.if-t-lt-HALF.false)); onto_a = λ l. rw c.unwrap_or-near.ensures at c.scan-2.ensures; is = c.met-2.ensures }
