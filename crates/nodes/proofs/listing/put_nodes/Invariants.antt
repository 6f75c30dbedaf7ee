-- The invariant: the lines of the nodes that the reader gave stand in the text, and it is as many rows on.
use Rattle.std.proofs.Common.{◌+◌, ◌*◌, ◌≤◌, ◌≡◌, length, take}
use Rattle.tables.specs.Definitions.Sizes.{node_rows}
use Rattle.tables.specs.Definitions.Rows.{flat}
use Rattle.player.specs.Definitions.Text.{Written}
use Rattle.player.specs.Definitions.Lines.{line_room}
use Rattle.reader.specs.Definitions.{readable, start_row, row_after}
use Rattle.nodes.specs.Definitions.{node_line}
use Rattle.nodes.proofs.listing.put_nodes.Given as goal

abbrev pub invariant-loop-v : goal.invariant-loop-v
invariant-loop-v l = record {
  ready : (goal.iterator-loop-v).can_next l.v-iterator × (goal.iterator-loop-v).is_finite l.v-iterator;
  same : length l.text ≡ length l.initial.text;
  table : l.v-iterator.table.now ≡ l.t;
  row : l.v-iterator.row ≡ row_after (start_row l.t) (length l.yielded);
  most : length l.yielded ≤ node_rows;
  near : l.end ≤ l.at + line_room * length l.yielded;
  lines : Written l.initial.text l.at (flat node_line (take (length l.yielded) (readable l.t))) l.text l.end;
}
