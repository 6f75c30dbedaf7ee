-- Links in rows, line by line.
use Rattle.std.specs.Prelude.{ℕ, ◌+◌, ◌≤◌, ◌≡◌}
use Rattle.std.proofs.Math.Path.{sym, ap}
use Rattle.std.proofs.Common.{◌∙◌, zero-add, take_all, arith}
use mathlib.Core.List.{List, [], ◌∷◌, ◌++◌, append-nil}
use Rattle.std.proofs.Math.ListN.{length, take}
use Rattle.matching.specs.Definitions.Columns.{tabulate}
use Rattle.matching.specs.Definitions.Rows.{link_in, links_in}
use Rattle.matching.proofs.Laws.Columns.{tabulate-length, tabulate_split}
use Rattle.tables.specs.Definitions.Rows.{flat}
use Rattle.tables.specs.Definitions.Lists.{links_in as listed}
use Rattle.tables.specs.Laws.Rows.{flat_append}
use Rattle.lists.specs.Lists.{LinksRead, links_of}
use Rattle.lists.proofs.Laws.Rows.{links_taken}
use Rattle.player.specs.Definitions.Text.{Written}
use Rattle.player.specs.Definitions.Lines.{link_line}
use Rattle.player.specs.Definitions.Transcript.{link_lines}
use Rattle.player.proofs.Laws.Text.{written_none, written_then, written_as}

module _ (L : List (List ℕ)) where
  -- As many links as were read.
  pub links_count : (l : List ℕ) (r : ℕ) → LinksRead l L r → r ≡ length (listed l)
  unfolding links_in
  links_count l r h = sym (tabulate-length (link_in L) 0 r) ∙ ap length h.links

  pub links_lines : (l : List ℕ) (r : ℕ) → LinksRead l L r → flat link_line (links_of (take r L)) ≡ link_lines l
  unfolding link_lines
  links_lines l r h = ap (flat link_line) (links_taken L r (omega (arith, h.most, h.room)) ∙ h.links)

  -- All of them.
  pub links_all : (r : ℕ) → r ≡ length L → links_in L r ≡ links_of L
  links_all r e = sym (links_taken L r (omega arith)) ∙ ap links_of (take_all r L (omega arith))

  -- No link yet,
  pub links_start : (t : List ℕ) (at : ℕ) → Written t at (flat link_line (links_in L 0)) t at
  unfolding links_in tabulate flat
  links_start t at = written_none t at

  -- and one line more.
  lines_more : (k : ℕ) → flat link_line (links_in L k) ++ link_line (link_in L k) ≡ flat link_line (links_in L (k + 1))
  unfolding links_in tabulate flat
  lines_more k =
      ap (λ (r : List ℕ). flat link_line (tabulate (link_in L) 0 k) ++ r) (sym (append-nil (link_line (link_in L k))))
      ∙ sym (flat_append link_line (tabulate (link_in L) 0 k) (link_in L k ∷ []))
      ∙ ap (flat link_line) (ap (λ (i : ℕ). tabulate (link_in L) 0 k ++ (link_in L i ∷ [])) (sym (zero-add k)) ∙ sym (tabulate_split (link_in L) 0 k 1))

  pub links_turn : (t t₁ t₂ : List ℕ) (at e r k : ℕ) → e ≤ length t
      → Written t at (flat link_line (links_in L k)) t₁ e → Written t₁ e (link_line (link_in L k)) t₂ r
      → Written t at (flat link_line (links_in L (k + 1))) t₂ r
  links_turn t t₁ t₂ at e r k h f g =
      written_as t _ _ t₂ at r (lines_more k) (written_then t (flat link_line (links_in L k)) (link_line (link_in L k)) t₁ t₂ at e r h f g)
