-- Two lists compared: rows by their fields, and leading links in common.
use Prim.Native.Nat.{ℕ, zero, suc, ◌+◌, ◌*◌, ◌-◌, ◌/◌, ◌<◌, ◌≤◌}
use Rattle.std.specs.Prelude.{◌≡◌, refl, Bool, true, false, not, List, None, eqb, length, take, drop}
use Rattle.std.proofs.Common.{sym, ◌∙◌, ap, ap₂, get_or-take, get_or-drop, ext_get_or}
use native.Mathlib.Omega.{arith}
use Rattle.std.proofs.Math.ListN.{get_or}
use borrow.Author.Tests.{eq-eqb, eqb-true, not-false}
use Rattle.matching.specs.Definitions.Links.{Link, same_link}
use Rattle.matching.proofs.Laws.Common.{same_link_lem, link_same}
use Rattle.tables.specs.Definitions.Sizes.{number_size, distance_size, amount_size, link_b, link_distance, link_amount, link_size, link_rows, list_size}
use Rattle.tables.specs.Definitions.Fields.{Bytes, nat_at}
use Rattle.tables.specs.Definitions.Rows.{all_from}
use Rattle.tables.specs.Definitions.Lists.{link_bytes, link_from, differs, first_difference}
use Rattle.tables.specs.Laws.Fields.{nat_zeros}
use Rattle.tables.specs.Laws.Rows.{none_from, from_none, zeros, all_from_lem, from_all}
use Rattle.tables.specs.Laws.ListRead.{row_bytes}

-- The link of a zero row.
abbrev pub no_link : Link
no_link = record { a = 0; b = 0; distance = 0; amount = 0 }

-- The same bytes are the same number.
nat_same : (w : ℕ) (l f : List ℕ) (i : ℕ) → ((j : ℕ) → i ≤ j → j < i + w → get_or l j 0 ≡ get_or f j 0) → nat_at w l i ≡ nat_at w f i
unfolding nat_at
nat_same zero l f i h = refl
nat_same (suc w) l f i h = ap₂ (λ (u v : ℕ). u + 256 * v) (h i (omega arith) (omega arith)) (nat_same w l f (suc i) (λ j a b. h j (omega arith) (omega arith)))

-- Rows are the same byte by byte if and only if they are field by field.
module _ (l f : List ℕ) (i : ℕ) where
  abbrev same : ℕ → Bool
  same j = eqb (get_or l j 0) (get_or f j 0)

  fields_same : all_from same i link_size ≡ true → link_from l i ≡ link_from f i
  unfolding link_from
  fields_same e = λ t. record {
    a = nat_same number_size l f i (λ j a b. at j a (omega arith)) t;
    b = nat_same number_size l f (i + link_b) (λ j a b. at j (omega arith) (omega arith)) t;
    distance = nat_same distance_size l f (i + link_distance) (λ j a b. at j (omega arith) (omega arith)) t;
    amount = nat_same amount_size l f (i + link_amount) (λ j a b. at j (omega arith) (omega arith)) t;
  }
    where
      at : (j : ℕ) → i ≤ j → j < i + link_size → get_or l j 0 ≡ get_or f j 0
      at j a b = eqb-true (get_or l j 0) (get_or f j 0) (from_all same i link_size j e a b)

  bytes_same : Bytes l → Bytes f → i + link_size ≤ length l → i + link_size ≤ length f → link_from l i ≡ link_from f i → all_from same i link_size ≡ true
  bytes_same bl bf hl hf e = all_from_lem same i link_size (λ j a b. eq-eqb (get_or l j 0) (get_or f j 0) (at j a b))
    where
      rows : take link_size (drop i l) ≡ take link_size (drop i f)
      rows = sym (row_bytes l i bl hl) ∙ ap link_bytes e ∙ row_bytes f i bf hf

      byte : (r : List ℕ) (j : ℕ) → i ≤ j → j < i + link_size → get_or (take link_size (drop i r)) (j - i) 0 ≡ get_or r j 0
      byte r j a b = let s : i + (j - i) ≡ j = omega arith in get_or-take link_size (drop i r) (j - i) 0 (omega arith) ∙ get_or-drop i r (j - i) 0 ∙ ap (λ (m : ℕ). get_or r m 0) s

      at : (j : ℕ) → i ≤ j → j < i + link_size → get_or l j 0 ≡ get_or f j 0
      at j a b = sym (byte l j a b) ∙ ap (λ (r : List ℕ). get_or r (j - i) 0) rows ∙ byte f j a b

  pub same_rows : Bytes l → Bytes f → i + link_size ≤ length l → i + link_size ≤ length f → all_from same i link_size ≡ same_link (link_from l i) (link_from f i)
  same_rows bl bf hl hf = go (all_from same i link_size) refl (same_link (link_from l i) (link_from f i)) refl
    where
      go : (s : Bool) → all_from same i link_size ≡ s → (t : Bool) → same_link (link_from l i) (link_from f i) ≡ t → s ≡ t
      go true e t d = sym (link_same (link_from l i)) ∙ ap (same_link (link_from l i)) (fields_same e) ∙ d
      go false e true d = sym e ∙ bytes_same bl bf hl hf (same_link_lem (link_from l i) (link_from f i) d)
      go false e false d = refl

-- Zero bytes are rows without a link.
pub zero_link : (m i : ℕ) → link_from (zeros m) i ≡ no_link
unfolding link_from
zero_link m i = λ t. record {
  a = nat_zeros number_size m i t;
  b = nat_zeros number_size m (i + link_b) t;
  distance = nat_zeros distance_size m (i + link_distance) t;
  amount = nat_zeros amount_size m (i + link_amount) t;
}

-- A list does not differ from itself,
pub same_difference : (l : List ℕ) → first_difference l l ≡ None
unfolding first_difference differs
same_difference l = from_none (differs l l) link_rows 0 (λ k h g.
    ap not (all_from_lem (λ (i : ℕ). eqb (get_or l i 0) (get_or l i 0)) (link_size * k) link_size (λ i a b. eq-eqb (get_or l i 0) (get_or l i 0) refl)))

-- and lists without a differing row are the same.
pub no_difference : (l f : List ℕ) → length l ≡ list_size → length f ≡ list_size → first_difference l f ≡ None → l ≡ f
unfolding first_difference differs
no_difference l f s r e = ext_get_or 0 l f (s ∙ sym r) (λ i h. at i (i / link_size) (omega arith) (omega arith) (omega arith))
  where
    at : (i k : ℕ) → link_size * k ≤ i → i < link_size * k + link_size → k < link_rows → get_or l i 0 ≡ get_or f i 0
    at i k h g low =
        let c = not-false (all_from (λ (j : ℕ). eqb (get_or l j 0) (get_or f j 0)) (link_size * k) link_size) (none_from (differs l f) link_rows 0 k e (omega arith) (omega arith)) in
        eqb-true (get_or l i 0) (get_or f i 0) (from_all (λ (j : ℕ). eqb (get_or l j 0) (get_or f j 0)) (link_size * k) link_size i c h g)
