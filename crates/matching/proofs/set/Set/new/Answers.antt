-- The columns are as long as their rows fit.
use Rattle.matching.proofs.set.Set.new.Goals as goal

pub invariant_of-result : goal.invariant_of-result
invariant_of-result c = let on = c.requires.fit 0 in record { numbers = on.numbers; positions = on.positions; capacities = on.capacities; fits = c.requires }
