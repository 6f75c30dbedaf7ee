-- The invariant: the lines of the links passed stand in the text.
use Rattle.std.proofs.Common.{◌+◌, ◌*◌, ◌≤◌, ◌≡◌, length}
use Rattle.matching.specs.Definitions.Rows.{links_in}
use Rattle.tables.specs.Definitions.Rows.{flat}
use Rattle.player.specs.Definitions.Text.{Written}
use Rattle.player.specs.Definitions.Lines.{line_room, link_line}
use Rattle.player.proofs.links.put_links.Given as goal

abbrev pub invariant-loop-link : goal.invariant-loop-link
invariant-loop-link l = record {
  same : length l.text ≡ length l.initial.text;
  near : l.end ≤ l.at + line_room * l.link-index;
  lines : Written l.initial.text l.at (flat link_line (links_in l.links l.link-index)) l.text l.end;
}
