-- A drawing played edit by edit, and what an input prints.
use Rattle.std.specs.Prelude.{ℕ, ◌+◌, ◌/◌, ◌%◌, ◌<◌, ◌≤◌, ◌≡◌, refl, cond, eqb, length, replicate}
use Rattle.std.proofs.Common.{sym, ◌∙◌, add-one}
use Rattle.std.proofs.Math.Path.{ap, ap₂}
use mathlib.Core.List.{List, [], ◌∷◌, ◌++◌}
use borrow.Author.Tests.{lt-ltb, le-ltb, eq-eqb, ne_eqb}
use Rattle.tables.specs.Definitions.Sizes.{list_size, edit_size}
use Rattle.tables.specs.Definitions.Lists.{links_in}
use Rattle.contract.specs.Definitions.Buffers.{lent}
use Rattle.contract.specs.Definitions.Shapes.{Outcome}
use Rattle.contract.specs.Definitions.Calls.{pair_call, edit_call}
use Rattle.player.specs.Definitions.Text.{Written}
use Rattle.player.specs.Definitions.Lines.{refusal_in, load_line, edit_line, part_line, short_line}
use Rattle.player.specs.Definitions.Transcript.{Drawing, drawing, after, turn_line, edit_at, edited, edit_lines, edits_most, tables_size, left_line, link_lines, playable, play_lines, load_lines, table_a, table_b, edits_in, transcript}
use Rattle.player.proofs.Laws.Text.{written_none, written_then, written_as}

-- One edit.
module _ (a b l e a' b' l' : List ℕ) (answer : ℕ) (h : record { code = answer; held = lent a' b' l'; others = e ∷ [] } ≡ edit_call a b l e) where
  pub turn_after : drawing a' b' l' ≡ after (drawing a b l) e
  turn_after = ap (λ (o : Outcome). drawing o.held.a o.held.b o.held.list) h

  pub turn_line_lem : (n links : ℕ) → links ≡ length (links_in l') → edit_line n answer links ≡ turn_line n (drawing a b l) e
  unfolding turn_line
  turn_line_lem n links k = ap (edit_line n answer) k ∙ ap (λ (o : Outcome). edit_line n o.code (length (links_in o.held.list))) h

-- The edits: one more, the drawing D being what the first k leave.
module _ (d : Drawing) (es : List ℕ) (k : ℕ) (D : Drawing) (e : List ℕ) (h : D ≡ edited d es k) (g : e ≡ edit_at es k) where
  pub edited_more : (D' : Drawing) → D' ≡ after D e → D' ≡ edited d es (k + 1)
  unfolding edited
  edited_more D' i = i ∙ ap₂ after h g ∙ ap (edited d es) (sym (add-one k))

  pub edits_turn : (t t₁ t₂ : List ℕ) (at m r : ℕ) → m ≤ length t → Written t at (edit_lines d es k) t₁ m → Written t₁ m (turn_line (k + 1) D e) t₂ r → Written t at (edit_lines d es (k + 1)) t₂ r
  edits_turn t t₁ t₂ at m r l f i = written_as t _ _ t₂ at r more (written_then t (edit_lines d es k) (turn_line (k + 1) D e) t₁ t₂ at m r l f i)
    where
      more : edit_lines d es k ++ turn_line (k + 1) D e ≡ edit_lines d es (k + 1)
      more = unfold edit_lines in ap₂ (λ (n : ℕ) (x : Drawing × List ℕ). edit_lines d es k ++ turn_line n x.0 x.1) (add-one k) (λ i. (h i, g i)) ∙ ap (edit_lines d es) (sym (add-one k))

-- None yet.
pub edits_none : (d : Drawing) (es : List ℕ) → d ≡ edited d es 0
unfolding edited
edits_none d es = refl

pub edits_start : (d : Drawing) (es t : List ℕ) (at : ℕ) → Written t at (edit_lines d es 0) t at
unfolding edit_lines
edits_start d es t at = written_none t at

-- What is left over.
module _ (n : ℕ) where
  pub left_part : n / edit_size < edits_most → ¬ (n % edit_size ≡ 0) → part_line (n % edit_size) ≡ left_line n
  unfolding left_line
  left_part h g = rw (lt-ltb (n / edit_size) edits_most h, ne_eqb (n % edit_size) 0 g)

  pub left_nothing : n / edit_size < edits_most → n % edit_size ≡ 0 → [] ≡ left_line n
  unfolding left_line
  left_nothing h g = rw (lt-ltb (n / edit_size) edits_most h, eq-eqb (n % edit_size) 0 g)

  pub left_unread : edits_most ≤ n / edit_size → [] ≡ left_line n
  unfolding left_line
  left_unread h = rw (le-ltb (n / edit_size) edits_most h)

-- Edits, what is left over, and the links of the drawing D that the edits leave.
pub play_lines_lem : (d : Drawing) (es : List ℕ) (D : Drawing) → D ≡ edited d es (playable (length es))
    → edit_lines d es (playable (length es)) ++ left_line (length es) ++ link_lines D.list ≡ play_lines d es
unfolding play_lines
play_lines_lem d es D h = ap (λ (x : Drawing). edit_lines d es (playable (length es)) ++ left_line (length es) ++ link_lines x.list) h

-- Loaded or not.
module _ (a b l es l' : List ℕ) (answer : ℕ) (h : record { code = answer; held = lent a b l'; others = [] } ≡ pair_call a b l) where
  lines_of : Outcome → List ℕ
  lines_of o = cond (eqb (refusal_in o.code) 0) (load_line o.code ++ play_lines (drawing a b o.held.list) es) (load_line o.code)

  lines_of_lem : lines_of (record { code = answer; held = lent a b l'; others = [] }) ≡ load_lines a b l es
  unfolding lines_of load_lines
  lines_of_lem = ap lines_of h

  pub load_stops : ¬ (refusal_in answer ≡ 0) → load_line answer ≡ load_lines a b l es
  load_stops g = stops ∙ lines_of_lem
    where
      stops : load_line answer ≡ lines_of (record { code = answer; held = lent a b l'; others = [] })
      stops = unfold lines_of in rw (ne_eqb (refusal_in answer) 0 g)

  pub load_plays : refusal_in answer ≡ 0 → load_line answer ++ play_lines (drawing a b l') es ≡ load_lines a b l es
  load_plays g = plays ∙ lines_of_lem
    where
      plays : load_line answer ++ play_lines (drawing a b l') es ≡ lines_of (record { code = answer; held = lent a b l'; others = [] })
      plays = unfold lines_of in rw (eq-eqb (refusal_in answer) 0 g)

-- The whole input.
module _ (input : List ℕ) where
  pub input_short : length input < tables_size → short_line ≡ transcript input
  unfolding transcript
  input_short h = rw (lt-ltb (length input) tables_size h)

  pub input_whole : (a b : List ℕ) → tables_size ≤ length input → a ≡ table_a input → b ≡ table_b input → load_lines a b (replicate list_size 0) (edits_in input) ≡ transcript input
  unfolding transcript
  input_whole a b h e f = rw (le-ltb (length input) tables_size h) (ap₂ (λ (u v : List ℕ). load_lines u v (replicate list_size 0) (edits_in input)) e f)
