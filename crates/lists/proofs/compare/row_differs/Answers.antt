use Rattle.std.proofs.Common.{◌≡◌, ◌∙◌, ap, get_or, arith}
use Rattle.std.specs.Option.{unwrap_or}
use Rattle.tables.specs.Laws.ListRead.{bytes_known}
use Rattle.lists.proofs.Laws.Compare.{blank, row_differs}
use Rattle.lists.proofs.compare.row_differs.Goals as goal

pub returns : goal.returns
returns c =
    let x = c.args in
    let row : c.unwrap_or.result ≡ get_or x.links.now x.k blank =
    c.unwrap_or.ensures ∙ ap (λ o. unwrap_or o blank) c.copied.ensures ∙ c.get.ensures.lookup.4 (omega arith) blank in
    c.ne.ensures ∙ row_differs x.list.now x.links.now x.k (bytes_known x.list.now c.type_inv.list) c.requires.0 c.requires.1 _ _ (omega arith) (omega arith) c.row_at.ensures row
