-- The leading zeros and the binary digits of a number make its width.
use Rattle.std.specs.Prelude.{ℕ, zero, suc, ◌+◌, ◌-◌, ◌/◌, ◌^◌, ◌≤◌, ◌<◌, ◌≡◌, refl}
use Rattle.std.proofs.Common.{◌∙◌, ap, sym, add-suc, pow-suc, le_refl, arith}
use Rattle.std.specs.Int.Count.{count_leading_zeros}
use Rattle.tables.specs.Definitions.Bands.{digits_in, binary_digits}

zero_digits : (d : ℕ) → digits_in d 0 ≡ 0
unfolding digits_in
zero_digits zero = refl
zero_digits (suc d) = refl

-- Any number of turns that is enough serves.
turns : (k d n : ℕ) → n < 2 ^ k → n ≤ d → digits_in k n ≡ digits_in d n
unfolding digits_in
turns zero d zero h l = sym (zero_digits d)
turns zero d (suc n) h l = absurd (omega arith)
turns (suc k) d zero h l = sym (zero_digits d)
turns (suc k) zero (suc n) h l = absurd (omega arith)
turns (suc k) (suc d) (suc n) h l = ap suc (turns k d (suc n / 2) (omega (arith, pow-suc 2 k)) (omega arith))

total : (k n : ℕ) → n < 2 ^ k → count_leading_zeros k n + digits_in k n ≡ k
unfolding count_leading_zeros digits_in
total zero n h = refl
total (suc k) zero h = omega arith
total (suc k) (suc n) h = add-suc _ _ ∙ ap suc (total k (suc n / 2) (omega (arith, pow-suc 2 k)))

pub digits_width : (k n : ℕ) → n < 2 ^ k → k - count_leading_zeros k n ≡ binary_digits n
unfolding binary_digits
digits_width k n h = omega (arith, total k n h, turns k n n h (le_refl n))
