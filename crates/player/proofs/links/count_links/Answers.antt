-- As many as are read.
use Rattle.player.proofs.Laws.Links.{links_count}
use Rattle.player.proofs.links.count_links.Goals as goal

pub returns : goal.returns
returns c = let r = c.read_links-n in links_count _ _ r.result r.ensures
