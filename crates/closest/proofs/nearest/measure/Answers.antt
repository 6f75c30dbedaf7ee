-- The distance is that of the two positions.
use Rattle.closest.specs.Nearest.{apart}
use Rattle.closest.proofs.nearest.measure.Goals as goal

pub returns : goal.returns
unfolding apart
returns c = record { is = rw c.apart.ensures at c.pack.ensures.0; small = c.pack.ensures.1 }
