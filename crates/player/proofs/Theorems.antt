-- What is proved of the transcript beside the programs' contracts.
use Prim.Native.Nat.{ℕ, zero, suc, ◌+◌, ◌*◌, ◌-◌, ◌≤◌, ◌<◌}
use Rattle.std.specs.Prelude.{◌≡◌, eqb, length, take, replicate}
use Rattle.std.proofs.Math.Path.{refl, sym, ap, ap₂}
use Rattle.std.proofs.Common.{◌∙◌, take_all, take-add, drop_at}
use Rattle.std.proofs.Math.Bool.{cond}
use mathlib.Core.List.{List, [], ◌++◌}
use Rattle.std.proofs.Math.Decide.{dec_lt}
use Rattle.std.proofs.Math.Nat.{min-eq_right}
use native.Mathlib.Omega.{arith}
use Rattle.std.proofs.Math.ListN.{drop, length-drop}
use Rattle.std.proofs.Math.Seq.{length-take-le, take-take}
use Rattle.tables.specs.Definitions.Sizes.{table_size, list_size, edit_size}
use Rattle.contract.specs.Definitions.Shapes.{Outcome}
use Rattle.contract.specs.Definitions.Calls.{pair_call}
use Rattle.player.specs.Definitions.Lines.{refusal_in, load_line}
use Rattle.player.specs.Definitions.Transcript.{Drawing, drawing, after, turn_line, edit_at, edited, edit_lines, edits_most, tables_size, link_lines, playable, play_lines, load_lines, table_a, table_b, edits_in, transcript, input_room}
use Rattle.player.proofs.Laws.Play.{left_unread, input_whole}

drop-take : (n m : ℕ) (l : List ℕ) → n ≤ length l → drop n (take (n + m) l) ≡ take m (drop n l)
drop-take n m l h = ap (drop n) (take-add n m l) ∙ drop_at (take n l) (take m (drop n l)) n (length-take-le n l h)

-- The edits that are played, and those behind them.
module _ (es : List ℕ) (long : edit_size * edits_most ≤ length es) where
  read : List ℕ
  read = take (edit_size * edits_most) es

  same_edit : (k : ℕ) → k < edits_most → edit_at read k ≡ edit_at es k
  unfolding read
  same_edit k h =
      ap (take edit_size) (ap (λ (n : ℕ). drop (edit_size * k) (take n es)) all ∙ drop-take (edit_size * k) (edit_size * (edits_most - k)) es (omega arith))
      ∙ take-take edit_size (edit_size * (edits_most - k)) (drop (edit_size * k) es) (omega arith)
    where
      all : edit_size * edits_most ≡ edit_size * k + edit_size * (edits_most - k)
      all = omega arith

  same_edited : (d : Drawing) (k : ℕ) → k ≤ edits_most → edited d read k ≡ edited d es k
  unfolding edited
  same_edited d zero h = refl
  same_edited d (suc k) h = ap₂ after (same_edited d k (omega arith)) (same_edit k (omega arith))

  same_lines : (d : Drawing) (k : ℕ) → k ≤ edits_most → edit_lines d read k ≡ edit_lines d es k
  unfolding edit_lines
  same_lines d zero h = refl
  same_lines d (suc k) h =
      ap₂ (λ (u v : List ℕ). u ++ v) (same_lines d k (omega arith)) (ap₂ (turn_line (suc k)) (same_edited d k (omega arith)) (same_edit k (omega arith)))

  size : length read ≡ edit_size * edits_most
  unfolding read
  size = length-take-le (edit_size * edits_most) es long

  all_played : (n : ℕ) → edit_size * edits_most ≤ n → playable n ≡ edits_most
  all_played n h = min-eq_right (omega arith)

  same_play : (d : Drawing) → play_lines d read ≡ play_lines d es
  unfolding play_lines
  same_play d =
      ap₂ (λ (k : ℕ) (r : List ℕ). edit_lines d read k ++ r ++ link_lines (edited d read k).list) (all_played (length read) (omega (arith, size))) (sym (left_unread (length read) (omega (arith, size))))
      ∙ ap₂ (λ (u : List ℕ) (x : Drawing). u ++ [] ++ link_lines x.list) (same_lines d edits_most (omega arith)) (same_edited d edits_most (omega arith))
      ∙ sym (ap₂ (λ (k : ℕ) (r : List ℕ). edit_lines d es k ++ r ++ link_lines (edited d es k).list) (all_played (length es) long) (sym (left_unread (length es) (omega arith))))

  same_load : (a b l : List ℕ) → load_lines a b l read ≡ load_lines a b l es
  unfolding load_lines
  same_load a b l =
      let o : Outcome = pair_call a b l in
      ap (λ (r : List ℕ). cond (eqb (refusal_in o.code) 0) (load_line o.code ++ r) (load_line o.code)) (same_play (drawing a b o.held.list))

-- What is read decides all that is printed: bytes behind the 10,000th edit change nothing.
pub read_decides : (input : List ℕ) → transcript (take input_room input) ≡ transcript input
read_decides input = go (dec_lt (length input) input_room)
  where
    go : Dec (length input < input_room) → transcript (take input_room input) ≡ transcript input
    go (yes h) = ap transcript (take_all input_room input (omega arith))
    go (no h) =
        let size : length (take input_room input) ≡ input_room = length-take-le input_room input (omega arith) in
        sym (input_whole (take input_room input) (table_a input) (table_b input) (omega (arith, size)) (sym (take-take table_size input_room input (omega arith))) second)
        ∙ ap (load_lines (table_a input) (table_b input) (replicate list_size 0)) (drop-take tables_size (edit_size * edits_most) input (omega arith))
        ∙ played
        ∙ input_whole input (table_a input) (table_b input) (omega arith) refl refl
      where
        second : table_b input ≡ table_b (take input_room input)
        second = sym (ap (take table_size) (drop-take table_size (input_room - table_size) input (omega arith)) ∙ take-take table_size (input_room - table_size) (drop table_size input) (omega arith))

        played : load_lines (table_a input) (table_b input) (replicate list_size 0) (take (edit_size * edits_most) (edits_in input)) ≡ load_lines (table_a input) (table_b input) (replicate list_size 0) (edits_in input)
        played = unfold read in same_load (edits_in input) (simp length-drop (omega arith)) (table_a input) (table_b input) (replicate list_size 0)
