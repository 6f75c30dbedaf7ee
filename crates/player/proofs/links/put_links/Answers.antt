-- One line more in each turn.
use Rattle.std.proofs.Common.{refl, ◌∙◌, ap}
use native.Mathlib.Omega.{arith}
use Rattle.tables.specs.Definitions.Rows.{flat}
use Rattle.player.specs.Definitions.Lines.{link_line}
use Rattle.player.proofs.Laws.Text.{written_as}
use Rattle.player.proofs.Laws.Links.{links_start, links_turn, links_all}
use Rattle.player.proofs.links.put_links.Goals as goal

pub loop-link-init : goal.loop-link-init
loop-link-init c = let x = c.args in record { same = refl; near = omega arith; lines = links_start x.links.now x.text.now x.at }

pub loop-link-preserved : goal.loop-link-preserved
loop-link-preserved c =
    let f = c.link_line-end in
    let l = c.loop-link in
    let x = c.args in
    record {
      same = f.auto.text ∙ l.invariant.same;
      near = omega arith;
      lines = links_turn x.links.now x.text.now l.text _ x.at l.end f.result l.link-index (omega arith) l.invariant.lines f.ensures.written;
    }

pub returns-clause-written : goal.returns-clause-written
returns-clause-written c =
    let l = c.loop-link in
    let x = c.args in
    written_as x.text.now _ _ _ x.at _ (ap (flat link_line) (links_all x.links.now l.link-index (omega arith))) l.invariant.lines
