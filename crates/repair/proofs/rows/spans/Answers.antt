-- The set's rows fit, those of either sort.
use Rattle.repair.proofs.rows.spans.Goals as goal

pub returns-in-On : goal.returns-in-On
returns-in-On c = c.args.set.now.fits.fit 0

pub returns-in-Off : goal.returns-in-Off
returns-in-Off c = c.args.set.now.fits.fit 1
