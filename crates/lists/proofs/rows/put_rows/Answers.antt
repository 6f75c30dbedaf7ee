use Rattle.std.proofs.Common.{◌≡◌, ◌*◌, ◌∙◌, [], length, sym, arith}
use Rattle.std.proofs.Math.ListN.{get_or-map}
use Rattle.std.proofs.lemmas.List.{length-map}
use Rattle.matching.specs.Definitions.Rows.{link_of}
use Rattle.tables.specs.Definitions.Sizes.{link_size}
use Rattle.tables.specs.Definitions.Lists.{link_bytes}
use Rattle.tables.specs.Laws.Lists.{link_length}
use Rattle.tables.proofs.Laws.Puts.{row_turn, row_end}
use Rattle.lists.specs.Lists.{links_of}
use Rattle.lists.proofs.rows.put_rows.Goals as goal

pub loop-k-preserved : goal.loop-k-preserved
loop-k-preserved c =
    let l = c.loop-k in
    let L = c.args.links.now in
    let long : length (links_of L) ≡ length L = length-map L link_of in (
      c.put_row.auto.part ∙ l.invariant.0,
      rw (c.put_row.ensures, ← get_or-map link_of L l.k []) (row_turn link_bytes link_size link_length l.part (links_of L) l.k (link_of []) (omega arith) (omega arith)) ∙ l.invariant.1,
    )

pub returns : goal.returns
returns c =
    let l = c.loop-k in
    let L = c.args.links.now in
    let long : length (links_of L) ≡ length L = length-map L link_of in
    sym (row_end link_bytes link_size link_length l.part (links_of L) (link_size * l.k) l.k (omega arith)) ∙ l.invariant.1
