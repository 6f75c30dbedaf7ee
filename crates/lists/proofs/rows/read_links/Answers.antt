use Rattle.std.proofs.Common.{◌≡◌, refl, ◌∙◌, arith, length-set}
use Rattle.matching.specs.Definitions.Columns.{tabulate}
use Rattle.matching.specs.Definitions.Rows.{links_in}
use Rattle.matching.specs.Definitions.Sizes.{link_rows}
use Rattle.tables.specs.Definitions.Lists.{links_in as listed}
use Rattle.tables.specs.Laws.ListRead.{links_end, links_last, links_whole}
use Rattle.lists.proofs.Laws.Rows.{row_number, read_more}
use Rattle.lists.proofs.rows.read_links.Goals as goal

pub loop-k-init : goal.loop-k-init
unfolding links_in listed tabulate
loop-k-init c = (c.requires.1.room, refl)

pub returns-then-link-eq0 : goal.returns-then-link-eq0
returns-then-link-eq0 c =
    let x = c.args in
    let l = c.loop-k in
    let z = row_number x.list.now l.k c.row_at-link.result c.row_at-link.ensures ∙ c.if-link-eq0.true in
    record { most = omega arith; room = l.invariant.0; links = links_whole x.list.now (links_in l.links l.k) (listed x.list.now) l.k (links_end x.list.now l.k z) l.invariant.1 }

pub loop-k-preserved : goal.loop-k-preserved
loop-k-preserved c =
    let l = c.loop-k in (
      simp length-set l.invariant.0,
      read_more c.args.list.now l.links _ l.k c.row_at-link.result (omega arith) l.invariant.0 c.if-link-eq0.false c.row_at-link.ensures l.invariant.1,
    )

pub returns : goal.returns
returns c =
    let x = c.args in
    let l = c.loop-k in
    let all : link_rows ≡ l.k = omega arith in
    record { most = omega arith; room = l.invariant.0; links = rw all (links_whole x.list.now (links_in l.links l.k) (listed x.list.now) l.k (links_last x.list.now l.k (omega arith)) l.invariant.1) }
