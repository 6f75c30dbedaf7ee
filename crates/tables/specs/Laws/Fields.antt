-- Fields read back what was written, whatever their width.
use Rattle.std.specs.Prelude.{ℕ, zero, suc, ◌+◌, ◌*◌, ◌-◌, ◌/◌, ◌%◌, ◌^◌, ◌<◌, ◌≤◌, ◌≡◌, refl, List, [], ◌∷◌, ◌++◌, ℤ, pos, negsuc, ◌-ℤ◌, nat_abs, length, get_or, take, drop, replicate}
use Rattle.std.proofs.Common.{sym, ◌∙◌, ap, ap₂, arith, length-drop, take-add, drop-drop, lt-ltb, le-ltb}
use Rattle.std.proofs.Math.Nat.{pow-succ'}
use Rattle.std.proofs.Math.Decide.{dec_lt}
use Rattle.std.specs.Int.{w32, to_le_bytes, byte_at as byte_of}
use Rattle.matching.specs.Definitions.Nodes.{Node}
use Rattle.matching.proofs.Laws.Lists.{all_append}
use Rattle.tables.specs.Definitions.Sizes.{capacity_size, byte_end, farthest, most, most_sort}
use Rattle.tables.specs.Definitions.Fields.{Bytes, nat_at, nat_bytes, signed, unsigned}
use Rattle.tables.specs.Definitions.Tables.{capacity_in, sort_in, field_of}

-- Bytes.
byte_at : (xs : List ℕ) → Bytes xs → (i : ℕ) → get_or xs i 0 < 256
byte_at [] h i = omega arith
byte_at (x ∷ xs) h zero = h.0
byte_at (x ∷ xs) h (suc i) = byte_at xs h.1 i

pub bytes_drop : (n : ℕ) (xs : List ℕ) → Bytes xs → Bytes (drop n xs)
bytes_drop zero xs h = h
bytes_drop (suc n) [] h = tt
bytes_drop (suc n) (x ∷ xs) h = bytes_drop n xs h.1

pub get_d_zeros : (n i : ℕ) → ◌≡◌ {A = ℕ} (get_or (replicate n 0) i 0) 0
get_d_zeros zero i = refl
get_d_zeros (suc n) zero = refl
get_d_zeros (suc n) (suc i) = get_d_zeros n i

-- Numbers: as many bytes as said,
pub nat_length : (w n : ℕ) → length (nat_bytes w n) ≡ w
unfolding nat_bytes
nat_length zero n = refl
nat_length (suc w) n = ap suc (nat_length w (n / 256))

pub nat_bytes_lem : (w n : ℕ) → Bytes (nat_bytes w n)
unfolding nat_bytes
nat_bytes_lem zero n = tt
nat_bytes_lem (suc w) n = (omega arith, nat_bytes_lem w (n / 256))

-- small enough for them,
pub nat_high : (w : ℕ) (xs : List ℕ) → Bytes xs → (i : ℕ) → nat_at w xs i < 256 ^ w
unfolding nat_at
nat_high zero xs h i = omega arith
nat_high (suc w) xs h i = rw (pow-succ' 256 w) (omega (arith, byte_at xs h i, nat_high w xs h (suc i)))

-- read from where they stand,
nat_tail : (w x : ℕ) (xs : List ℕ) (i : ℕ) → nat_at w (x ∷ xs) (suc i) ≡ nat_at w xs i
unfolding nat_at
nat_tail zero x xs i = refl
nat_tail (suc w) x xs i = ap (λ (n : ℕ). get_or xs i 0 + 256 * n) (nat_tail w x xs (suc i))

nat_none : (w i : ℕ) → nat_at w [] i ≡ 0
unfolding nat_at
nat_none zero i = refl
nat_none (suc w) i = omega (arith, nat_none w (suc i))

pub nat_drop : (w : ℕ) (xs : List ℕ) (i j k : ℕ) → k ≡ i + j → nat_at w xs k ≡ nat_at w (drop i xs) j
nat_drop w xs zero j k e = ap (nat_at w xs) same
  where
    same : k ≡ j
    same = omega arith
nat_drop w [] (suc i) j k e = nat_none w k ∙ sym (nat_none w j)
nat_drop w (x ∷ xs) (suc i) j zero e = absurd (omega arith)
nat_drop w (x ∷ xs) (suc i) j (suc k) e = nat_tail w x xs k ∙ nat_drop w xs i j k (omega arith)

-- the same after they were written,
pub nat_read : (w n : ℕ) (r : List ℕ) → n < 256 ^ w → nat_at w (nat_bytes w n ++ r) 0 ≡ n
unfolding nat_at nat_bytes
nat_read zero n r h = omega arith
nat_read (suc w) n r h =
    let l : n < 256 * 256 ^ w = rw (pow-succ' 256 w) at h in
    omega (arith, nat_tail w (n % 256) (nat_bytes w (n / 256) ++ r) 0, nat_read w (n / 256) r (omega arith))

-- and written as they were read.
pub nat_write : (w : ℕ) (xs : List ℕ) → Bytes xs → w ≤ length xs → nat_bytes w (nat_at w xs 0) ≡ take w xs
unfolding nat_at nat_bytes
nat_write zero xs h l = refl
nat_write (suc w) [] h l = absurd (omega arith)
nat_write (suc w) (x ∷ xs) h l = ap₂ (λ (y : ℕ) (ys : List ℕ). y ∷ ys) low (ap (nat_bytes w) high ∙ nat_write w xs h.1 (omega arith))
  where
    low : (x + 256 * nat_at w (x ∷ xs) 1) % 256 ≡ x
    low = omega (arith, h.0)

    high : (x + 256 * nat_at w (x ∷ xs) 1) / 256 ≡ nat_at w xs 0
    high = omega (arith, h.0, nat_tail w x xs 0)

-- Zero bytes are the number 0.
pub nat_zeros : (w m i : ℕ) → nat_at w (replicate m 0) i ≡ 0
unfolding nat_at
nat_zeros zero m i = refl
nat_zeros (suc w) m i = omega (arith, get_d_zeros m i, nat_zeros w m (suc i))

-- Four fields, one after the other: a node's row is such, and a link's.
module _ (a b c d : ℕ) where
  pub four_bytes : (x y z u : ℕ) → Bytes (nat_bytes a x ++ (nat_bytes b y ++ (nat_bytes c z ++ nat_bytes d u)))
  four_bytes x y z u =
      all_append (λ n. n < 256) (nat_bytes a x) (nat_bytes b y ++ (nat_bytes c z ++ nat_bytes d u)) (nat_bytes_lem a x)
      (all_append (λ n. n < 256) (nat_bytes b y) (nat_bytes c z ++ nat_bytes d u) (nat_bytes_lem b y)
      (all_append (λ n. n < 256) (nat_bytes c z) (nat_bytes d u) (nat_bytes_lem c z) (nat_bytes_lem d u)))

  -- Read at i, j, k and m and written again, they are the bytes from i on.
  pub four_read : (r : List ℕ) (i j k m : ℕ) → Bytes r → i + a ≡ j → j + b ≡ k → k + c ≡ m → m + d ≤ length r
      → nat_bytes a (nat_at a r i) ++ (nat_bytes b (nat_at b r j) ++ (nat_bytes c (nat_at c r k) ++ nat_bytes d (nat_at d r m))) ≡ take (a + (b + (c + d))) (drop i r)
  four_read r i j k m h e f g l =
      ap₂ (λ (u v : List ℕ). u ++ v) (one a i (omega arith))
      (ap₂ (λ (u v : List ℕ). u ++ v) (one b j (omega arith))
      (ap₂ (λ (u v : List ℕ). u ++ v) (one c k (omega arith)) (one d m l) ∙ joined k m c d g)
      ∙ joined j k b (c + d) f)
      ∙ joined i j a (b + (c + d)) e
    where
      one : (w i : ℕ) → i + w ≤ length r → nat_bytes w (nat_at w r i) ≡ take w (drop i r)
      one w i l = ap (nat_bytes w) (nat_drop w r i 0 i (omega arith)) ∙ nat_write w (drop i r) (bytes_drop i r h) (simp length-drop (omega arith))

      joined : (i j u v : ℕ) → i + u ≡ j → take u (drop i r) ++ take v (drop j r) ≡ take (u + v) (drop i r)
      joined i j u v e = sym (take-add u v (drop i r) ∙ ap (λ (q : List ℕ). take u (drop i r) ++ take v q) (drop-drop u i r ∙ ap (λ (m : ℕ). drop m r) e))

-- The capacity field of a node gives its capacity and its sort again,
pub field_capacity : (v : Node) → v.capacity ≤ most → capacity_in (field_of v) ≡ v.capacity
field_capacity v h = omega arith

pub field_sort : (v : Node) → v.capacity ≤ most → sort_in (field_of v) ≡ v.sort
field_sort v h = omega arith

-- has two bytes,
pub field_high : (v : Node) → v.capacity ≤ most → v.sort ≤ most_sort → field_of v < 256 ^ capacity_size
field_high v h g = omega arith

-- and a field is that of what it gives.
pub field_whole : (f : ℕ) → capacity_in f + byte_end * sort_in f ≡ f
field_whole f = omega arith

-- Two bytes, and four as twice two, as code reads and writes them.
pub nat_two : (xs : List ℕ) (i : ℕ) → nat_at 2 xs i ≡ get_or xs i 0 + 256 * get_or xs (i + 1) 0
unfolding nat_at
nat_two xs i = let e : suc i ≡ i + 1 = omega arith in omega (arith, ap (λ (j : ℕ). get_or xs j 0) e)

pub nat_four : (xs : List ℕ) (i : ℕ) → nat_at 4 xs i ≡ get_or xs i 0 + 256 * get_or xs (i + 1) 0 + 65536 * get_or xs (i + 2) 0 + 16777216 * get_or xs (i + 3) 0
unfolding nat_at
nat_four xs i =
    let byte = λ (j : ℕ). get_or xs j 0 in
    let one : suc i ≡ i + 1 = omega arith in
    let two : suc (suc i) ≡ i + 2 = omega arith in
    let three : suc (suc (suc i)) ≡ i + 3 = omega arith in
    omega (arith, ap byte one, ap byte two, ap byte three)

second : (n : ℕ) → byte_of 1 n ≡ n / 256 % 256
second n = omega arith

third : (n : ℕ) → byte_of 2 n ≡ n / 256 / 256 % 256
third n = omega arith

fourth : (n : ℕ) → byte_of 3 n ≡ n / 256 / 256 / 256 % 256
fourth n = omega arith

pub bytes_le : (w n : ℕ) → w ≤ 4 → take w (to_le_bytes w32 n) ≡ nat_bytes w n
unfolding nat_bytes
bytes_le zero n h = refl
bytes_le (suc zero) n h = refl
bytes_le (suc (suc zero)) n h = ap (λ (b : ℕ). n % 256 ∷ b ∷ []) (second n)
bytes_le (suc (suc (suc zero))) n h = ap₂ (λ (b c : ℕ). n % 256 ∷ b ∷ c ∷ []) (second n) (third n)
bytes_le (suc (suc (suc (suc zero)))) n h = λ t. n % 256 ∷ second n t ∷ third n t ∷ fourth n t ∷ []
bytes_le (suc (suc (suc (suc (suc w))))) n h = absurd (omega arith)

-- Positions.
pub signed_low : (n : ℕ) → n < 32768 → signed n ≡ pos n
unfolding signed
signed_low n h = rw (lt-ltb n 32768 h)

pub signed_less : (n : ℕ) → 32768 ≤ n → signed n ≡ pos n -ℤ pos 65536
unfolding signed
signed_less n h = rw (le-ltb n 32768 h)

pub signed_high : (n : ℕ) → 32768 ≤ n → n < 65536 → signed n ≡ negsuc (65535 - n)
signed_high n l h =
    let e : 65536 - suc n ≡ 65535 - n = omega arith in
    signed_less n l ∙ rw (lt-ltb n 65536 h) (ap negsuc e)

pub signed-unsigned : (z : ℤ) → nat_abs z ≤ farthest → signed (unsigned z) ≡ z
unfolding unsigned
signed-unsigned (pos n) h = signed_low n (omega arith)
signed-unsigned (negsuc n) h = signed_high (65535 - n) (omega arith) (omega arith) ∙ ap negsuc (omega arith)

pub unsigned_high : (z : ℤ) → nat_abs z ≤ farthest → unsigned z < 65536
unfolding unsigned
unsigned_high (pos n) h = omega arith
unsigned_high (negsuc n) h = omega arith

pub unsigned_signed : (n : ℕ) → n < 65536 → unsigned (signed n) ≡ n
unfolding unsigned
unsigned_signed n h = go (dec_lt n 32768)
  where
    go : Dec (n < 32768) → unsigned (signed n) ≡ n
    go (yes l) = rw (signed_low n l)
    go (no f) = rw (signed_high n (omega arith) h) (omega arith)
