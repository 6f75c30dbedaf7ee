-- A list that holds the first k links of the finished one, zero rows after.
use Prim.Native.Nat.{ℕ, zero, suc, ◌+◌, ◌*◌, ◌-◌, ◌/◌, ◌<◌, ◌≤◌}
use Rattle.std.specs.Prelude.{◌≡◌, true, get_or, take, drop, Some}
use Rattle.std.proofs.Math.Path.{refl, sym, ap}
use Rattle.std.proofs.Common.{◌∙◌, true≢false, arith, get_or-append-add, take_at, drop-cons, take-suc, length-take-le, get_or-take}
use Rattle.std.proofs.Math.Bool.{Bool, false, not}
use mathlib.Core.List.{List, [], ◌∷◌, ◌++◌, append_assoc, append-nil}
use Rattle.std.proofs.Math.Decide.{dec_lt}
use Rattle.std.proofs.Math.Dec.{eqb}
use Rattle.std.proofs.Math.ListN.{length, get_or-append}
use Rattle.std.proofs.Math.Seq.{drop-append_seam, ext_get_or}
use borrow.Author.Tests.{eq-eqb, eqb-true, not-false}
use Rattle.matching.specs.Definitions.Lists.{All}
use Rattle.matching.specs.Definitions.Links.{Link}
use Rattle.matching.proofs.Laws.Lists.{all_get}
use Rattle.tables.specs.Definitions.Sizes.{number_size, link_size, link_rows, list_size}
use Rattle.tables.specs.Definitions.Rows.{flat, padded, put, all_from}
use Rattle.tables.specs.Definitions.Fields.{nat_at}
use Rattle.tables.specs.Definitions.Lists.{link_bytes, list_bytes, link_from, differs, first_difference, zero_from}
use Rattle.tables.specs.Laws.Fields.{get_d_zeros}
use Rattle.tables.specs.Laws.Rows.{zeros, drop-zeros, flat_append, put_after, First, first_is, some_from, all_from_lem, from_all}
use Rattle.tables.specs.Laws.Lists.{GoodLink, link_length, links_length, list_length, link_read}
use Rattle.tables.proofs.Laws.ListCode.{list_take}
use Rattle.contract.proofs.Laws.Kept.{parted}

-- A number whose bytes are all zero.
nat_none : (w : ℕ) (xs : List ℕ) (i : ℕ) → ((j : ℕ) → i ≤ j → j < i + w → get_or xs j 0 ≡ 0) → nat_at w xs i ≡ 0
unfolding nat_at
nat_none zero xs i h = refl
nat_none (suc w) xs i h = omega (arith, h i (omega arith) (omega arith), nat_none w xs (suc i) (λ j a b. h j (omega arith) (omega arith)))

-- Two lists of bytes that begin with P, of k rows.
module _ (P : List ℕ) (k : ℕ) (size : length P ≡ link_size * k) where
  same_row : (X Y : List ℕ) (j : ℕ) → j < k → differs (P ++ X) (P ++ Y) j ≡ false
  unfolding differs
  same_row X Y j h = ap not (all_from_lem _ (link_size * j) link_size (λ i a b. eq-eqb (get_or (P ++ X) i 0) (get_or (P ++ Y) i 0)
      (get_or-append P X 0 i (omega arith) ∙ sym (get_or-append P Y 0 i (omega arith)))))

  behind : (X : List ℕ) (i : ℕ) → get_or (P ++ X) (link_size * k + i) 0 ≡ get_or X i 0
  behind X i = rw (← size, get_or-append-add P X i 0)

  zero_behind : (m i : ℕ) → link_size * k ≤ i → get_or (P ++ zeros m) i 0 ≡ 0
  zero_behind m i h = ap (λ (j : ℕ). get_or (P ++ zeros m) j 0) sums ∙ behind (zeros m) (i - link_size * k) ∙ get_d_zeros m (i - link_size * k)
    where
      sums : i ≡ link_size * k + (i - link_size * k)
      sums = omega arith

  zero_after : (m : ℕ) → zero_from (P ++ zeros m) k ≡ true
  unfolding zero_from
  zero_after m = all_from_lem _ (link_size * k) (list_size - link_size * k) (λ i a b. eq-eqb (get_or (P ++ zeros m) i 0) 0 (zero_behind m i a))

  row_differs : (m : ℕ) (x : Link) (R : List ℕ) → GoodLink x → differs (P ++ zeros m) (P ++ (link_bytes x ++ R)) k ≡ true
  unfolding differs link_from
  row_differs m x R h = go (all_from p (link_size * k) link_size) refl
    where
      p : ℕ → Bool
      p i = eqb (get_or (P ++ zeros m) i 0) (get_or (P ++ (link_bytes x ++ R)) i 0)

      equal : all_from p (link_size * k) link_size ≡ true → (i : ℕ) → i < link_size → get_or (link_bytes x ++ R) i 0 ≡ 0
      equal e i g =
          sym (behind (link_bytes x ++ R) i)
          ∙ sym (eqb-true (get_or (P ++ zeros m) (link_size * k + i) 0) (get_or (P ++ (link_bytes x ++ R)) (link_size * k + i) 0) (from_all p (link_size * k) link_size (link_size * k + i) e (omega arith) (omega arith)))
          ∙ zero_behind m (link_size * k + i) (omega arith)

      go : (t : Bool) → all_from p (link_size * k) link_size ≡ t → not t ≡ true
      go true e = absurd (omega (arith, h.low, nat_none number_size (link_bytes x ++ R) 0 (λ j a b. equal e j (omega arith)), ap (λ (l : Link). l.a) (link_read x R h)))
      go false e = refl

  first_row : (m : ℕ) (x : Link) (R : List ℕ) → GoodLink x → k < link_rows → first_difference (P ++ zeros m) (P ++ (link_bytes x ++ R)) ≡ Some k
  unfolding first_difference
  first_row m x R h g = first_is (differs (P ++ zeros m) (P ++ (link_bytes x ++ R))) link_rows 0 k
      (record { from = omega arith; low = omega arith; here = row_differs m x R h; ahead = λ i a b. same_row (zeros m) (link_bytes x ++ R) i b })

abbrev blank : Link
blank = record { a = 0; b = 0; distance = 0; amount = 0 }

-- The first k of the links J, where there are more.
module _ (J : List Link) (good : All GoodLink J) (room : length J ≤ link_rows) (k : ℕ) (more : k < length J) where
  abbrev P : List ℕ
  P = flat link_bytes (take k J)

  abbrev x : Link
  x = get_or J k blank

  abbrev R : List ℕ
  R = flat link_bytes (drop (suc k) J) ++ zeros (list_size - link_size * length J)

  size : length P ≡ link_size * k
  size = links_length (take k J) ∙ ap (λ (n : ℕ). link_size * n) (length-take-le k J (omega arith))

  short : list_bytes (take k J) ≡ P ++ zeros (list_size - link_size * k)
  unfolding list_bytes padded
  short = ap (λ (n : ℕ). P ++ zeros (list_size - n)) size

  full : list_bytes J ≡ P ++ (link_bytes x ++ R)
  unfolding flat
  full = parted J k ∙ ap (λ (r : List ℕ). P ++ r)
      (ap (λ (D : List Link). flat link_bytes D ++ zeros (list_size - link_size * length J)) (drop-cons J k blank more)
      ∙ append_assoc (link_bytes x) (flat link_bytes (drop (suc k) J)) (zeros (list_size - link_size * length J)))

  longer : list_bytes (take (suc k) J) ≡ P ++ (link_bytes x ++ zeros (list_size - link_size * suc k))
  unfolding list_bytes padded flat
  longer =
      ap (λ (n : ℕ). flat link_bytes (take (suc k) J) ++ zeros (list_size - n)) (links_length (take (suc k) J) ∙ ap (λ (n : ℕ). link_size * n) (length-take-le (suc k) J more))
      ∙ ap (λ (f : List ℕ). f ++ zeros (list_size - link_size * suc k)) (ap (flat link_bytes) (take-suc J k blank more) ∙ flat_append link_bytes (take k J) (x ∷ []))
      ∙ append_assoc P (link_bytes x ++ []) (zeros (list_size - link_size * suc k))
      ∙ ap (λ (r : List ℕ). P ++ (r ++ zeros (list_size - link_size * suc k))) (append-nil (link_bytes x))

  put_row : (m : ℕ) → put (zeros m) 0 (link_bytes x) ≡ link_bytes x ++ zeros (m - link_size)
  unfolding put
  put_row m = rw (link_length x) (ap (λ (r : List ℕ). link_bytes x ++ r) (drop-zeros link_size m))

  pub next_row : take link_size (drop (link_size * k) (list_bytes J)) ≡ link_bytes x
  next_row = rw (full, ← size, drop-append_seam P (link_bytes x ++ R)) (take_at (link_bytes x) R link_size (link_length x))

  put_next : put (list_bytes (take k J)) (link_size * k) (link_bytes x) ≡ list_bytes (take (suc k) J)
  put_next = rw (short, longer) (ap (λ (i : ℕ). put (P ++ zeros (list_size - link_size * k)) i (link_bytes x)) start ∙ put_after P (zeros (list_size - link_size * k)) (link_bytes x) 0
      ∙ ap (λ (r : List ℕ). P ++ r) (put_row (list_size - link_size * k) ∙ ap (λ (m : ℕ). link_bytes x ++ zeros m) less))
    where
      start : link_size * k ≡ length P + 0
      start = omega (arith, size)

      less : list_size - link_size * k - link_size ≡ list_size - link_size * suc k
      less = omega arith

  -- It differs from all of them in row k first,
  pub leading_differs : first_difference (list_bytes (take k J)) (list_bytes J) ≡ Some k
  leading_differs = rw (short, full) (first_row P k size (list_size - link_size * k) x R (all_get GoodLink J k blank more good) (omega arith))

  -- is zero from there on,
  pub leading_zero : zero_from (list_bytes (take k J)) k ≡ true
  leading_zero = rw short (zero_after P k size (list_size - link_size * k))

  -- and with the next row put there it holds one more.
  pub leading_next : put (list_bytes (take k J)) (link_size * k) (take link_size (drop (link_size * k) (list_bytes J))) ≡ list_bytes (take (suc k) J)
  leading_next = rw next_row put_next

-- Two lists are the same in a row that does not differ.
rows_same : (l f : List ℕ) (j : ℕ) → differs l f j ≡ false → (i : ℕ) → link_size * j ≤ i → i < link_size * j + link_size → get_or l i 0 ≡ get_or f i 0
unfolding differs
rows_same l f j e i h g = eqb-true (get_or l i 0) (get_or f i 0) (from_all (λ k. eqb (get_or l k 0) (get_or f k 0)) (link_size * j) link_size i (not-false _ e) h g)

-- The other way round: a list that differs in row k first, and is zero from there, holds the first k links.
module _ (l : List ℕ) (J : List Link) (size : length l ≡ list_size) (room : length J ≤ link_rows) (k : ℕ)
    (d : first_difference l (list_bytes J) ≡ Some k) (z : zero_from l k ≡ true) where
  first : First (differs l (list_bytes J)) 0 link_rows k
  unfolding first_difference
  first = some_from (differs l (list_bytes J)) link_rows 0 k d

  zero_at : (i : ℕ) → link_size * k ≤ i → i < list_size → get_or l i 0 ≡ 0
  unfolding zero_from
  zero_at i h g = eqb-true (get_or l i 0) 0 (from_all (λ j. eqb (get_or l j 0) 0) (link_size * k) (list_size - link_size * k) i z h (omega (arith, first.low)))

  -- behind the links both are zero
  zero_there : (i : ℕ) → link_size * length J ≤ i → get_or (list_bytes J) i 0 ≡ 0
  unfolding list_bytes padded
  zero_there i h = zero_behind (flat link_bytes J) (length J) (links_length J) (list_size - length (flat link_bytes J)) i h

  pub leading_missing : k < length J
  unfolding differs
  leading_missing = go (dec_lt k (length J))
    where
      same : length J ≤ k → differs l (list_bytes J) k ≡ false
      same h = ap not (all_from_lem (λ i. eqb (get_or l i 0) (get_or (list_bytes J) i 0)) (link_size * k) link_size
          (λ i a b. eq-eqb (get_or l i 0) (get_or (list_bytes J) i 0) (zero_at i a (omega (arith, first.low)) ∙ sym (zero_there i (omega arith)))))

      go : Dec (k < length J) → k < length J
      go (yes h) = h
      go (no h) = absurd (true≢false (sym first.here ∙ same (omega arith)))

  pub leading_list : l ≡ list_bytes (take k J)
  unfolding list_bytes padded
  leading_list = ext_get_or 0 l (list_bytes (take k J)) (size ∙ sym whole) (λ i h. go i (dec_lt i (link_size * k)) h)
    where
      Q : List ℕ
      Q = flat link_bytes (take k J)

      rows : length (take k J) ≡ k
      rows = length-take-le k J (omega (arith, leading_missing))

      part : length Q ≡ link_size * k
      part = links_length (take k J) ∙ ap (λ (n : ℕ). link_size * n) rows

      whole : length (list_bytes (take k J)) ≡ list_size
      whole = list_length (take k J) (omega (arith, rows, leading_missing))

      go : (i : ℕ) → Dec (i < link_size * k) → i < length l → get_or l i 0 ≡ get_or (Q ++ zeros (list_size - length Q)) i 0
      go i (yes h) g =
          rows_same l (list_bytes J) (i / link_size) (first.ahead (i / link_size) (omega arith) (omega arith)) i (omega arith) (omega arith)
          ∙ sym (get_or-take (link_size * k) (list_bytes J) i 0 h)
          ∙ ap (λ (r : List ℕ). get_or r i 0) (list_take J k (omega (arith, leading_missing)))
          ∙ sym (get_or-append Q (zeros (list_size - length Q)) 0 i (omega (arith, part)))
      go i (no h) g = zero_at i (omega arith) (omega arith) ∙ sym (zero_behind Q k part (list_size - length Q) i (omega arith))
