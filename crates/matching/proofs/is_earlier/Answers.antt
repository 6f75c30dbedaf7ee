-- By the distance, and then the order of tuples.
use Rattle.std.proofs.Common.{rules, arith, le-ltb, eq-eqb}
use Rattle.matching.specs.Definitions.Pairs.{earlier}
use Rattle.matching.proofs.Laws.Order.{earlier-distance}
use Rattle.matching.proofs.is_earlier.Goals as goal

pub returns-then-d-e : goal.returns-then-d-e
returns-then-d-e c = earlier-distance _ _ c.if-d-e.true

pub returns : goal.returns
unfolding earlier
returns c = let h = c.if-d-e.false in rw (le-ltb c.args.d c.args.e (omega arith), eq-eqb c.args.d c.args.e h) (search rules)
