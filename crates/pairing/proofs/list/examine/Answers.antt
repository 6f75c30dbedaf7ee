-- The verdict is that of the review.
use Rattle.pairing.proofs.list.examine.Goals as goal

pub locate-requires : goal.locate-requires
locate-requires c = let fit = c.requires.fits.0 in ((fit.fit 1).spans, (fit.fit 0).numbers, c.requires.fits.1)
