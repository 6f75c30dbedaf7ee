-- The invariant: the edits before k are played, and their lines stand in the text.
use Rattle.std.proofs.Common.{◌+◌, ◌*◌, ◌≤◌, ◌≡◌, length}
use Rattle.player.specs.Definitions.Text.{Written}
use Rattle.player.specs.Definitions.Lines.{line_room}
use Rattle.player.specs.Definitions.Transcript.{drawing, edited, edit_lines}
use Rattle.player.proofs.play.play_edits.Given as goal

abbrev pub invariant-loop-k : goal.invariant-loop-k
invariant-loop-k l = record {
  text : length l.text ≡ length l.initial.text;
  list : length l.list ≡ length l.initial.list;
  near : l.end ≤ l.at + line_room * l.k;
  played : drawing l.a l.b l.list ≡ edited (drawing l.initial.a l.initial.b l.initial.list) l.edits l.k;
  lines : Written l.initial.text l.at (edit_lines (drawing l.initial.a l.initial.b l.initial.list) l.edits l.k) l.text l.end;
}
