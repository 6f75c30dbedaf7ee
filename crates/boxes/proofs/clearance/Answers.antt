-- No position in the box is nearer than the nearest.
use Rattle.boxes.proofs.Laws.Boxes.{clear}
use Rattle.boxes.proofs.clearance.Goals as goal

pub returns : goal.returns
returns c = clear _ _ _ _ c.requires.0 c.requires.1 c.nearest.ensures c.apart.ensures
