-- The law is named with its type, since the array is too long to be written out.
use Prim.Native.Nat.{ℕ}
use mathlib.Core.Path.{sym}
use lib.ListN.{length-replicate}
use Rattle.player.specs.Definitions.Transcript.{text_room}
use Rattle.player.proofs.text_buffer.Goals as goal

pub returns : goal.returns
returns c = sym (length-replicate {A = ℕ} text_room 0)
