-- The links are read and written out.
use Rattle.player.proofs.Laws.Text.{written_as}
use Rattle.player.proofs.Laws.Links.{links_lines}
use Rattle.player.proofs.links.link_lines.Goals as goal

pub returns-clause-written : goal.returns-clause-written
returns-clause-written c = let x = c.args in written_as x.text.now _ _ _ x.at _ (links_lines _ x.list.now c.read_links-n.result c.read_links-n.ensures) c.put_links.ensures.written
