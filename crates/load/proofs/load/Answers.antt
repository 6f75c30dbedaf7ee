-- The second table leaves the rows of the first as they are.
use Rattle.load.specs.Laws.Loaded.{loaded}
use Rattle.load.proofs.load.Goals as goal

pub returns : goal.returns
returns c = loaded c.table-p.ensures c.table-q.ensures
