-- All bytes from one on, and the greater of two bytes.
use Rattle.std.specs.Prelude.{ℕ, zero, suc, ◌+◌, ◌-◌, ◌<◌, ◌≡◌, refl, Bool, true, false, ◌&&◌, eqb, max}
use Rattle.std.proofs.Common.{ne_eqb, arith}
use Rattle.tables.specs.Definitions.Rows.{all_from}
use Rattle.tables.proofs.Laws.Search.{all_here, all_on}

-- One byte more, beside what was found so far.
pub all_next : (p : ℕ → Bool) (k e : ℕ) → k < e → (b : Bool) → (b && all_from p k (e - k)) ≡ ((b && p k) && all_from p (k + 1) (e - (k + 1)))
all_next p k e h b = go b (p k) refl
  where
    go : (b t : Bool) → p k ≡ t → (b && all_from p k (e - k)) ≡ ((b && t) && all_from p (k + 1) (e - (k + 1)))
    go false t x = refl
    go true true x = all_on p k e h x
    go true false x = all_here p k e h x

pub and_true : (t : Bool) → (t && true) ≡ t
and_true true = refl
and_true false = refl

-- The greater of two bytes is zero where both are.
pub max_zero : (p q : ℕ) → eqb (max p q) 0 ≡ (eqb p 0 && eqb q 0)
max_zero zero q = let e : max 0 q ≡ q = omega arith in rw e
max_zero (suc p) q = rw (ne_eqb (max (suc p) q) 0 (λ e. omega arith), ne_eqb (suc p) 0 (λ e. omega arith))
