-- The links of a list row by row, and the list that is the bytes of its links.
use Rattle.std.specs.Prelude.{ℕ, zero, suc, ◌+◌, ◌*◌, ◌-◌, ◌<◌, ◌≤◌, ◌≡◌, get_or, take, drop}
use Rattle.std.proofs.Math.Path.{refl, sym, ap, ap₂}
use Rattle.std.proofs.Common.{◌∙◌, add-one, arith, take-append-drop, Fits}
use Rattle.std.proofs.Math.Bool.{true}
use mathlib.Core.List.{List, [], ◌∷◌, ◌++◌, append-nil}
use Rattle.std.proofs.Math.Dec.{eqb}
use Rattle.std.proofs.Math.ListN.{length, length-drop}
use Rattle.std.proofs.lemmas.List.{length-replicate}
use Rattle.std.proofs.Math.Seq.{get_or-drop, ext_get_or}
use Rattle.std.specs.Int.{w8}
use borrow.Author.Tests.{eq-eqb, ne_eqb, eqb-true}
use Rattle.matching.specs.Definitions.Links.{Link}
use Rattle.tables.specs.Definitions.Sizes.{number_size, distance_size, amount_size, link_b, link_distance, link_amount, link_size, link_rows, list_size}
use Rattle.tables.specs.Definitions.Fields.{Bytes, nat_at}
use Rattle.tables.specs.Definitions.Rows.{flat, padded}
use Rattle.tables.specs.Definitions.Lists.{link_bytes, list_bytes, link_from, links_from, links_in, zero_from}
use Rattle.tables.specs.Laws.Fields.{get_d_zeros, four_read}
use Rattle.tables.specs.Laws.Rows.{zeros, from_all}
use Rattle.tables.specs.Laws.RowsRead.{rows_written}
use Rattle.tables.specs.Laws.Lists.{links_length, links_zero, links_suc}

-- A lent slice of bytes, from what is known of its elements.
pub bytes_known : (l : List ℕ) → ((i : ℕ) → Fits w8 (get_or l i 0)) → Bytes l
bytes_known [] h = tt
bytes_known (b ∷ l) h = ((h 0).fits, bytes_known l (λ i. h (suc i)))

-- The links of the rows from k to the end: none where a row has no A number,
pub links_end : (l : List ℕ) (k : ℕ) → nat_at number_size l (link_size * k) ≡ 0 → links_from l k (link_rows - k) ≡ []
links_end l k e = ends (link_rows - k)
  where
    ends : (n : ℕ) → links_from l k n ≡ []
    ends zero = unfold links_from in refl
    ends (suc n) = unfold links_from in rw (eq-eqb (nat_at number_size l (link_size * k)) 0 e)

pub links_last : (l : List ℕ) (k : ℕ) → link_rows ≤ k → links_from l k (link_rows - k) ≡ []
unfolding links_from
links_last l k h = let e : link_rows - k ≡ 0 = omega arith in rw e

-- and otherwise one more.
pub links_on : (l : List ℕ) (k : ℕ) → k < link_rows → (nat_at number_size l (link_size * k) ≡ 0 → ⊥) → links_from l k (link_rows - k) ≡ link_from l (link_size * k) ∷ links_from l (k + 1) (link_rows - (k + 1))
unfolding links_from
links_on l k h z = let e : link_rows - k ≡ suc (link_rows - (k + 1)) = omega arith in rw (e, ne_eqb (nat_at number_size l (link_size * k)) 0 z, add-one k)

-- The whole is read.
pub links_whole : (l : List ℕ) (K W : List Link) (k : ℕ) → links_from l k (link_rows - k) ≡ [] → K ++ links_from l k (link_rows - k) ≡ W → K ≡ W
links_whole l K W k z e = sym (append-nil K) ∙ ap (λ (J : List Link). K ++ J) (sym z) ∙ e

-- A row's bytes are those that stand there.
pub row_bytes : (r : List ℕ) (i : ℕ) → Bytes r → i + link_size ≤ length r → link_bytes (link_from r i) ≡ take link_size (drop i r)
unfolding link_bytes link_from
row_bytes r i h l = four_read number_size number_size distance_size amount_size r i (i + link_b) (i + link_distance) (i + link_amount) h refl (omega arith) (omega arith) (omega arith)

module _ (l : List ℕ) (h : Bytes l) (s : length l ≡ list_size) where
  -- Zero bytes behind them.
  zero_rest : (k : ℕ) → zero_from l k ≡ true → drop (link_size * k) l ≡ zeros (list_size - link_size * k)
  unfolding zero_from
  zero_rest k z = ext_get_or 0 (drop (link_size * k) l) (zeros (list_size - link_size * k)) (simp (length-drop, length-replicate) (omega arith))
      (λ i g. get_or-drop (link_size * k) l i 0 ∙ eqb-true (get_or l (link_size * k + i) 0) 0 (at i (simp length-drop at g)) ∙ sym (get_d_zeros (list_size - link_size * k) i))
    where
      at : (i : ℕ) → i < length l - link_size * k → eqb (get_or l (link_size * k + i) 0) 0 ≡ true
      at i g = from_all (λ (j : ℕ). eqb (get_or l j 0) 0) (link_size * k) (list_size - link_size * k) (link_size * k + i) z (omega arith) (omega arith)

  rows_all : flat link_bytes (links_in l) ≡ take (link_size * length (links_in l)) l
  unfolding links_in
  rows_all = rows_written link_size link_bytes link_from number_size links_from links_zero links_suc row_bytes l h link_rows 0 (λ j g. omega arith)

  -- A list that is zero behind its links is the list of its links.
  pub links_list : zero_from l (length (links_in l)) ≡ true → l ≡ list_bytes (links_in l)
  unfolding list_bytes padded
  links_list z = sym (take-append-drop (link_size * length (links_in l)) l) ∙ ap₂ (λ (u v : List ℕ). u ++ v) (sym rows_all) (zero_rest (length (links_in l)) z ∙ ap zeros rest)
    where
      rest : list_size - link_size * length (links_in l) ≡ list_size - length (flat link_bytes (links_in l))
      rest = omega (arith, links_length (links_in l))
