-- One edit and its line more in each turn.
use Rattle.std.proofs.Common.{ℕ, ◌+◌, ◌*◌, ◌-◌, ◌≡◌, refl, ◌∙◌, ap, take, drop}
use native.Mathlib.Omega.{arith}
use Rattle.tables.specs.Definitions.Sizes.{edit_size}
use Rattle.player.specs.Definitions.Transcript.{drawing}
use Rattle.player.proofs.Laws.Play.{edits_none, edits_start, edited_more, edits_turn}
use Rattle.player.proofs.play.play_edits.Goals as goal

pub loop-k-init : goal.loop-k-init
loop-k-init c =
    let x = c.args in
    let d = drawing x.a.now x.b.now x.list.now in
    record { text = refl; list = refl; near = omega arith; played = edits_none d x.edits.now; lines = edits_start d x.edits.now x.text.now x.at }

pub loop-k-preserved : goal.loop-k-preserved
loop-k-preserved c =
    let f = c.play_edit-end in
    let l = c.loop-k in
    let x = c.args in
    let d = drawing x.a.now x.b.now x.list.now in
    let D = drawing l.a l.b l.list in
    let z : edit_size * l.k + edit_size - edit_size * l.k ≡ edit_size = omega arith in
    let e = ap (λ (n : ℕ). take n (drop (edit_size * l.k) x.edits.now)) z in
    record {
      text = f.auto.text ∙ l.invariant.text;
      list = f.auto.list ∙ l.invariant.list;
      near = omega arith;
      played = edited_more d x.edits.now l.k D _ l.invariant.played e (drawing f.new.a f.new.b f.new.list) f.ensures.list_after;
      lines = edits_turn d x.edits.now l.k D _ l.invariant.played e x.text.now l.text _ x.at l.end f.result (omega arith) l.invariant.lines f.ensures.written;
    }
