-- A number digit by digit, and texts put one behind the other.
use Rattle.std.specs.Prelude.{ℕ, zero, suc, ◌+◌, ◌-◌, ◌/◌, ◌%◌, ◌^◌, ◌<◌, ◌≤◌, ◌≡◌, refl, cond, List, [], ◌∷◌, ◌++◌, ltb, length, take, set}
use Rattle.std.proofs.Common.{sym, ◌∙◌, ap, pow-suc, arith, length-append, lt-ltb, le-ltb}
use Rattle.std.proofs.Math.Decide.{dec_lt}
use borrow.Rule.Slice.PartMut.{put_mid, Post-is}
use Rattle.tables.specs.Definitions.Rows.{put}
use Rattle.tables.specs.Laws.Rows.{put_none, put_cons}
use Rattle.tables.proofs.Laws.ListCode.{put_next}
use Rattle.player.specs.Definitions.Text.{digit, digits, decimal, Written}

-- Any number of digits that is enough serves.
enough : (k m n : ℕ) → n < k → n < m → digits k n ≡ digits m n
unfolding digits
enough zero m n h g = absurd (omega arith)
enough (suc k) zero n h g = absurd (omega arith)
enough (suc k) (suc m) n h g = go (dec_lt n 10) (enough k m (n / 10))
  where
    last : List ℕ
    last = digit (n % 10) ∷ []

    go : Dec (n < 10) → (n / 10 < k → n / 10 < m → digits k (n / 10) ≡ digits m (n / 10))
        → cond (ltb n 10) (digit n ∷ []) (digits k (n / 10) ++ last) ≡ cond (ltb n 10) (digit n ∷ []) (digits m (n / 10) ++ last)
    go (yes l) i = rw (lt-ltb n 10 l)
    go (no l) i = rw (le-ltb n 10 (omega arith)) (ap (λ (r : List ℕ). r ++ last) (i (omega arith) (omega arith)))

-- One digit,
pub decimal_one : (n : ℕ) → n < 10 → decimal n ≡ digit n ∷ []
unfolding decimal digits
decimal_one n h = rw (lt-ltb n 10 h)

-- and one more.
pub decimal_more : (n : ℕ) → 10 ≤ n → decimal n ≡ decimal (n / 10) ++ (digit (n % 10) ∷ [])
unfolding decimal digits
decimal_more n h = rw (le-ltb n 10 h) (ap (λ (r : List ℕ). r ++ (digit (n % 10) ∷ [])) (enough n (suc (n / 10)) (n / 10) (omega arith) (omega arith)))

pub length_one : (n : ℕ) → n < 10 → length (decimal n) ≡ 1
length_one n h = ap length (decimal_one n h)

pub length_more : (n : ℕ) → 10 ≤ n → length (decimal n) ≡ length (decimal (n / 10)) + 1
length_more n h = ap length (decimal_more n h) ∙ length-append (decimal (n / 10)) (digit (n % 10) ∷ [])

-- How many there are at most.
decimal-length : (k n : ℕ) → n < 10 ^ suc k → length (decimal n) ≤ suc k
decimal-length zero n h = omega (arith, length_one n (omega (arith, h)))
decimal-length (suc k) n h = go (dec_lt n 10) (decimal-length k (n / 10) (omega (arith, pow-suc 10 (suc k))))
  where
    go : Dec (n < 10) → length (decimal (n / 10)) ≤ suc k → length (decimal n) ≤ suc (suc k)
    go (yes l) i = omega (arith, length_one n l)
    go (no l) i = omega (arith, length_more n (omega arith))

-- A number of 32 bits.
pub decimal_short : (n : ℕ) → n < 2 ^ 32 → length (decimal n) ≤ 10
decimal_short n h = decimal-length 9 n (omega arith)

-- A text written over a part that is as long.
pub word_put : (t w : List ℕ) (at : ℕ) → put_mid at (at + length w - at) t w ≡ put t at w
unfolding put
word_put t w at = ap (λ (z : List ℕ). take at t ++ (w ++ z)) (Post-is at (at + length w) t (omega arith))

-- Nothing written,
pub written_none : (t : List ℕ) (at : ℕ) → Written t at [] t at
written_none t at = record { end = omega arith; text = sym (put_none t at) }

-- one byte stored,
pub written_byte : (t : List ℕ) (at v : ℕ) → at < length t → Written t at (v ∷ []) (set t at v) (at + 1)
written_byte t at v h = record { end = refl; text = sym (put_cons t at v [] h ∙ put_none (set t at v) (suc at)) }

-- and one text behind another.
pub written_then : (t u v t₁ t₂ : List ℕ) (at e r : ℕ) → e ≤ length t → Written t at u t₁ e → Written t₁ e v t₂ r → Written t at (u ++ v) t₂ r
written_then t u v t₁ t₂ at e r h f g = record {
  end = omega (arith, f.end, g.end, length-append u v);
  text = g.text ∙ ap (λ (s : List ℕ). put s e v) f.text ∙ put_next u v t at e f.end h;
}

-- The text by another name.
pub written_as : (t u v t' : List ℕ) (at r : ℕ) → u ≡ v → Written t at u t' r → Written t at v t' r
written_as t u v t' at r e w = rw e at w
