-- Signed positions as places of a scale without a sign, where `omega` reads their order and their differences. Assumes nothing.
use Prim.Native.Nat.{ℕ, zero, suc, ◌+◌, ◌-◌, ◌≤◌, ◌<◌}
use mathlib.Core.Path.{◌≡◌, refl}
use mathlib.Core.Bool.{Bool, true, false, cond}
use mathlib.Core.Logic.{◌⊎◌, inl, inr}
use native.Mathlib.Decide.{dec_lt}
use native.Mathlib.Omega.{arith}
use lib.Dec.{leb→le, le→leb}
use lib.IntN.{ℤ, pos, negsuc, sub_ℕ, ◌-ℤ◌, nat_abs}
use lib.Signed.{mag, lt_z, ◌≤ℤ◌, ≤ℤ_refl, lt_z_yes, lt_z_no, <ℤ-≤ℤ_trans, clash_ℤ}
use mir.Syntax.{w16}
use mir.Val.{to_z, of_z}
use mir.Facts.{to_z-of_z}
use borrow.Author.Rules.{sfits_of}
use borrow.Author.Tests.{lt-ltb, le-ltb, ltb-true}
use Rattle.std.specs.Int.{int_min, int_max}
use Rattle.boxes.specs.Boxes.{Between, Clamped}

-- A coordinate is read back from its two bytes.
pub held : (z : ℤ) → mag z < 32768 → to_z w16 (of_z w16 z) ≡ z
held z h = to_z-of_z {w = w16} (sfits_of h)

-- Less is at most.
le_lt : (x y : ℤ) → lt_z x y ≡ true → x ≤ℤ y
le_lt (pos a) (pos b) h = record { le = le→leb a b (omega (arith, ltb-true a b h)) }
le_lt (pos a) (negsuc b) h = absurd (let e : ◌≡◌ {A = ℕ} 0 1 = cc in omega arith)
le_lt (negsuc a) (pos b) h = record { le = tt }
le_lt (negsuc a) (negsuc b) h = record { le = le→leb b a (omega (arith, ltb-true b a h)) }

pub le_then : (x y z : ℤ) → x ≤ℤ y → y ≤ℤ z → x ≤ℤ z
le_then x y z h k = go (lt_z z x) refl
  where
    go : (t : Bool) → lt_z z x ≡ t → x ≤ℤ z
    go true e = clash_ℤ (<ℤ-≤ℤ_trans (lt_z_yes (rw e tt)) h) k
    go false e = lt_z_no (rw e tt)

-- Of two positions one is at most the other.
either : (x y : ℤ) → (x ≤ℤ y) ⊎ (y ≤ℤ x)
either x y = go (lt_z x y) refl
  where
    go : (t : Bool) → lt_z x y ≡ t → (x ≤ℤ y) ⊎ (y ≤ℤ x)
    go true e = inl (le_lt x y e)
    go false e = inr (lt_z_no (rw e tt))

-- A position on a scale whose zero is at n.
abbrev place : ℕ → ℤ → ℕ
place n (pos k) = n + k
place n (negsuc k) = n - suc k

le_place : (n : ℕ) (x y : ℤ) → x ≤ℤ y → place n x ≤ place n y
le_place n (pos a) (pos b) h = omega (arith, leb→le a b h.le)
le_place n (pos a) (negsuc b) h = absurd h.le
le_place n (negsuc a) (pos b) h = omega arith
le_place n (negsuc a) (negsuc b) h = omega (arith, leb→le b a h.le)

-- The size of a difference.
abs_sub : (a b : ℕ) → nat_abs (sub_ℕ a b) ≡ (a - b) + (b - a)
abs_sub a b = go (dec_lt a b)
  where
    go : Dec (a < b) → nat_abs (sub_ℕ a b) ≡ (a - b) + (b - a)
    go (yes h) = rw (lt-ltb a b h) (omega arith)
    go (no h) = rw (le-ltb a b (omega arith)) (omega arith)

abs_place : (n : ℕ) (x y : ℤ) → nat_abs x ≤ n → nat_abs y ≤ n → nat_abs (x -ℤ y) ≡ (place n x - place n y) + (place n y - place n x)
abs_place n (pos a) (pos zero) h k = omega arith
abs_place n (pos a) (pos (suc b)) h k = omega (arith, abs_sub a (suc b))
abs_place n (pos a) (negsuc b) h k = omega arith
abs_place n (negsuc a) (pos zero) h k = omega (arith, abs_sub 0 (suc a))
abs_place n (negsuc a) (pos (suc b)) h k = omega arith
abs_place n (negsuc a) (negsuc b) h k = omega (arith, abs_sub (suc b) (suc a))

-- Of three positions the middle one is nearer to either end than the other end is.
pub between_near : (p q u : ℤ) → Between p q u → (nat_abs (p -ℤ q) ≤ nat_abs (p -ℤ u)) × (nat_abs (q -ℤ u) ≤ nat_abs (p -ℤ u))
between_near p q u h = go h
  where
    n : ℕ
    n = nat_abs p + nat_abs q + nat_abs u

    pq : nat_abs (p -ℤ q) ≡ (place n p - place n q) + (place n q - place n p)
    pq = abs_place n p q (omega arith) (omega arith)

    qu : nat_abs (q -ℤ u) ≡ (place n q - place n u) + (place n u - place n q)
    qu = abs_place n q u (omega arith) (omega arith)

    pu : nat_abs (p -ℤ u) ≡ (place n p - place n u) + (place n u - place n p)
    pu = abs_place n p u (omega arith) (omega arith)

    go : Between p q u → (nat_abs (p -ℤ q) ≤ nat_abs (p -ℤ u)) × (nat_abs (q -ℤ u) ≤ nat_abs (p -ℤ u))
    go (inl h) = omega (arith, pq, qu, pu, le_place n p q h.0, le_place n q u h.1)
    go (inr h) = omega (arith, pq, qu, pu, le_place n u q h.0, le_place n q p h.1)

-- What holds of both coordinates holds of the lesser and of the greater.
chosen : (P : ℤ → Type 0) (t : Bool) {x y : ℤ} → P x → P y → P (cond t x y)
chosen P true h k = h
chosen P false h k = k

-- The lesser of two coordinates is at most both, the greater at least.
module _ (p q : ℤ) where
  pub least : (int_min p q ≤ℤ p) × (int_min p q ≤ℤ q)
  least = go (lt_z q p) refl
    where
      go : (t : Bool) → lt_z q p ≡ t → (cond t q p ≤ℤ p) × (cond t q p ≤ℤ q)
      go true e = (le_lt q p e, ≤ℤ_refl q)
      go false e = (≤ℤ_refl p, lt_z_no (rw e tt))

  pub greatest : (p ≤ℤ int_max p q) × (q ≤ℤ int_max p q)
  greatest = go (lt_z q p) refl
    where
      go : (t : Bool) → lt_z q p ≡ t → (p ≤ℤ cond t p q) × (q ≤ℤ cond t p q)
      go true e = (≤ℤ_refl p, le_lt q p e)
      go false e = (lt_z_no (rw e tt), ≤ℤ_refl q)

  pub min_small : (n : ℕ) → nat_abs p ≤ n → nat_abs q ≤ n → nat_abs (int_min p q) ≤ n
  min_small n h k = chosen (λ z. nat_abs z ≤ n) (lt_z q p) k h

  pub max_small : (n : ℕ) → nat_abs p ≤ n → nat_abs q ≤ n → nat_abs (int_max p q) ≤ n
  max_small n h k = chosen (λ z. nat_abs z ≤ n) (lt_z q p) h k

-- The answer of a clamp where the low end is not taken, by the test of the high one.
module _ (p low high : ℤ) where
  pub clamped : Clamped p low high (int_min p high)
  clamped = record { between = λ u a b. go u a b (lt_z high p) refl; small = λ n a b c. min_small p high n a c }
    where
      side : (u : ℤ) → (u ≤ℤ p) ⊎ (p ≤ℤ u) → Between p p u
      side u (inl h) = inr (h, ≤ℤ_refl p)
      side u (inr h) = inl (≤ℤ_refl p, h)

      go : (u : ℤ) → low ≤ℤ u → u ≤ℤ high → (t : Bool) → lt_z high p ≡ t → Between p (cond t high p) u
      go u a b true e = inr (b, le_lt high p e)
      go u a b false e = side u (either u p)

-- A position from low to high that is at most n away from c.
pub record Near (c low high : ℤ) (n : ℕ) : Type 0 where
  pub at : ℤ
  pub from : low ≤ℤ at
  pub to : at ≤ℤ high
  pub away : nat_abs (c -ℤ at) ≤ n

-- Where the way from low to x passes c, the range from low to high reaches as near to c as any u of it is to x.
pub reaches : (low c high x u : ℤ) → Between low c x → low ≤ℤ u → u ≤ℤ high → Near c low high (nat_abs (x -ℤ u))
reaches low c high x u h d e = go h (either u c)
  where
    at_u : Between x c u → Near c low high (nat_abs (x -ℤ u))
    at_u h = record { at = u; from = d; to = e; away = (between_near x c u h).1 }

    go : Between low c x → (u ≤ℤ c) ⊎ (c ≤ℤ u) → Near c low high (nat_abs (x -ℤ u))
    go (inr h) m = at_u (inl (h.0, le_then c low u h.1 d))
    go (inl h) (inl m) = at_u (inr (m, h.1))
    go (inl h) (inr m) = record { at = c; from = h.0; to = le_then c u high m e; away = omega (arith, abs_place (nat_abs c) c c (omega arith) (omega arith)) }
