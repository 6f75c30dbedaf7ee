-- Positions, nodes and answers, line by line.
use Rattle.std.specs.Prelude.{ℕ, zero, suc, ◌+◌, ◌<◌, ◌≤◌, refl, true, false, ℤ, pos, negsuc, nat_abs, length}
use Rattle.std.proofs.Math.Path.{◌≡◌, sym, ap}
use Rattle.std.proofs.Common.{◌∙◌, ap₂, add-one, arith, take_all, ltb-true, lt-ltb, le-ltb}
use Rattle.std.specs.Prelude.{None, Some}
use mathlib.Core.List.{List, [], ◌∷◌, ◌++◌, append-nil}
use Rattle.std.proofs.Math.ListN.{take}
use Rattle.std.specs.Int.Signed.{lt_z}
use Rattle.matching.specs.Definitions.Nodes.{Node}
use Rattle.tables.specs.Definitions.Sizes.{number_size, node_rows}
use Rattle.tables.specs.Definitions.Fields.{nat_at}
use Rattle.tables.specs.Definitions.Rows.{flat}
use Rattle.tables.specs.Laws.Rows.{flat_append}
use Rattle.player.specs.Definitions.Text.{bytes, field, Written}
use Rattle.player.specs.Definitions.Lines.{short_line}
use Rattle.player.proofs.Laws.Text.{written_none, written_then, written_as}
use Rattle.reader.specs.Definitions.{nth, numbered, readable, start_row, row_after, node_at, found_of}
use Rattle.reader.proofs.Laws.{nth_behind}
use Rattle.reader.proofs.Theorems.{read_on, readable_room}
use Rattle.std.proofs.Math.Decide.{dec_lt}
use Rattle.nodes.specs.Definitions.{sign, position, node_line, answer_line, table_in, listing}

-- A sign by its test.
sign_minus : (z : ℤ) → lt_z z (pos 0) ≡ true → sign z ≡ bytes " -"
sign_minus (pos n) h = absurd (omega (arith, ltb-true n 0 h))
sign_minus (negsuc n) h = refl

sign_none : (z : ℤ) → lt_z z (pos 0) ≡ false → sign z ≡ bytes " "
sign_none (pos n) h = refl
sign_none (negsuc n) h = absurd (let e : ◌≡◌ {A = ℕ} 0 1 = cc in omega arith)

pub position_minus : (z : ℤ) (n : ℕ) → lt_z z (pos 0) ≡ true → n ≡ nat_abs z → field (bytes " -") n ≡ position z
unfolding position
position_minus z n h e = ap (field (bytes " -")) e ∙ ap (λ (w : List ℕ). field w (nat_abs z)) (sym (sign_minus z h))

pub position_plus : (z : ℤ) (n : ℕ) → lt_z z (pos 0) ≡ false → n ≡ nat_abs z → field (bytes " ") n ≡ position z
unfolding position
position_plus z n h e = ap (field (bytes " ")) e ∙ ap (λ (w : List ℕ). field w (nat_abs z)) (sym (sign_none z h))

-- The first k nodes: one more, and all.
take_more : (A : List Node) (k : ℕ) (v : Node) → nth A k ≡ Some v → take (suc k) A ≡ take k A ++ (v ∷ [])
take_more [] k v e = unfold nth in absurd (let z : ◌≡◌ {A = ℕ} 0 1 = cc in omega arith)
take_more (w ∷ A) zero v e = unfold nth in (let i : w ≡ v = cc in ap (λ (u : Node). u ∷ []) i)
take_more (w ∷ A) (suc k) v e = ap (λ (l : List Node). w ∷ l) (take_more A k v (unfold nth in e))

take_whole : (A : List Node) (k : ℕ) → nth A k ≡ None → take k A ≡ A
take_whole [] k e = take_all k [] (omega arith)
take_whole (w ∷ A) zero e = unfold nth in absurd (let z : ◌≡◌ {A = ℕ} 0 1 = cc in omega arith)
take_whole (w ∷ A) (suc k) e = ap (λ (l : List Node). w ∷ l) (take_whole A k (unfold nth in e))

-- The lines of the first k nodes: none, one more, and all.
module _ (A : List Node) (t : List ℕ) (at : ℕ) where
  pub lines_start : Written t at (flat node_line (take 0 A)) t at
  unfolding flat
  lines_start = written_none t at

  more : (k : ℕ) (v : Node) → nth A k ≡ Some v → flat node_line (take k A) ++ node_line v ≡ flat node_line (take (k + 1) A)
  unfolding flat
  more k v e =
      ap (λ (r : List ℕ). flat node_line (take k A) ++ r) (sym (append-nil (node_line v)))
      ∙ sym (flat_append node_line (take k A) (v ∷ []))
      ∙ ap (flat node_line) (sym (take_more A k v e) ∙ ap (λ (i : ℕ). take i A) (sym (add-one k)))

  pub lines_turn : (t₁ t₂ : List ℕ) (e r k : ℕ) (v : Node) → nth A k ≡ Some v → e ≤ length t → Written t at (flat node_line (take k A)) t₁ e → Written t₁ e (node_line v) t₂ r
      → Written t at (flat node_line (take (k + 1) A)) t₂ r
  lines_turn t₁ t₂ e r k v n h f g = written_as t _ _ t₂ at r (more k v n) (written_then t (flat node_line (take k A)) (node_line v) t₁ t₂ at e r h f g)

  pub lines_end : (t₁ : List ℕ) (e k : ℕ) → nth A k ≡ None → Written t at (flat node_line (take k A)) t₁ e → Written t at (flat node_line A) t₁ e
  lines_end t₁ e k n f = written_as t _ _ t₁ at e (ap (flat node_line) (take_whole A k n)) f

-- What a reader n nodes on from the start gives is node n.
pub node_given : (t u : List ℕ) (k n : ℕ) → u ≡ t → k ≡ row_after (start_row t) n → found_of (node_at u k) ≡ found_of (nth (readable t) n)
node_given t u k n e f = ap₂ (λ (x : List ℕ) (i : ℕ). found_of (node_at x i)) e f ∙ ap found_of (read_on t n)

pub node_within : (t : List ℕ) (n : ℕ) (v : Node) → nth (readable t) n ≡ Some v → n < node_rows
node_within t n v e = go (dec_lt n (length (readable t)))
  where
    go : Dec (n < length (readable t)) → n < node_rows
    go (yes h) = omega (arith, readable_room t)
    go (no h) = absurd (let d = nth_behind (readable t) n (omega arith) in let z : ◌≡◌ {A = ℕ} 0 1 = cc in omega arith)

-- The whole text.
module _ (input : List ℕ) where
  pub listing_short : length input < number_size → short_line ≡ listing input
  unfolding listing
  listing_short h = rw (lt-ltb (length input) number_size h)

  pub whole : number_size ≤ length input → flat node_line (readable (table_in input)) ++ answer_line (numbered (nat_at number_size input 0) (readable (table_in input))) ≡ listing input
  unfolding listing
  whole h = rw (le-ltb (length input) number_size h)

  pub listing_whole : (t : List ℕ) (n : ℕ) → number_size ≤ length input → t ≡ table_in input → n ≡ nat_at number_size input 0
      → flat node_line (readable t) ++ answer_line (numbered n (readable t)) ≡ listing input
  listing_whole t n h e f = ap₂ (λ (u : List ℕ) (m : ℕ). flat node_line (readable u) ++ answer_line (numbered m (readable u))) e f ∙ whole h
