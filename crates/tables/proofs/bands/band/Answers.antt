-- Leading zeros and digits make 32.
use native.Mathlib.Omega.{arith}
use lib.Count.{leading_le}
use Rattle.tables.proofs.Laws.Digits.{digits_width}
use Rattle.tables.proofs.bands.band.Goals as goal

pub overflow_sub-result : goal.overflow_sub-result
overflow_sub-result c = omega (arith, leading_le 32 c.args.d)

pub returns : goal.returns
returns c = (digits_width 32 _ c.ranges.d.fits, omega arith)
