-- Within reach the sum of the two squares fits four bytes.
use Rattle.std.proofs.Common.{ap, arith}
use Rattle.matching.specs.Definitions.Pairs.{square}
use Rattle.matching.proofs.Laws.Distance.{distance_fits}
use Rattle.matching.proofs.Laws.Widths.{apart}
use Rattle.matching.proofs.squared_distance.Goals as goal

pub overflow_add-result : goal.overflow_add-result
overflow_add-result c =
    let f = c.ranges in
    record { fits = omega (arith, c.squared.ensures, c.squared-2.ensures, ap square (apart f.x f.u), ap square (apart f.y f.v), distance_fits c.args.x c.args.y c.args.u c.args.v c.requires) }
