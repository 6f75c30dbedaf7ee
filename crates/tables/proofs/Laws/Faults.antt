-- The search for a number among earlier rows, one row at a time.
use Rattle.std.specs.Prelude.{ℕ, zero, suc, ◌+◌, ◌<◌, ◌≡◌, refl, Bool, true, false, ◌||◌, List}
use Rattle.std.proofs.Common.{sym, ◌∙◌, ap, add-one, arith}
use Rattle.std.proofs.Math.Decide.{ℕ_discrete}
use borrow.Author.Tests.{eq-eqb, ne_eqb}
use Rattle.tables.specs.Definitions.Tables.{row_number, stands_before}

or_true : (b : Bool) → (b || true) ≡ true
or_true true = refl
or_true false = refl

module _ (t : List ℕ) (n : ℕ) where
  pub stands_at : (j k : ℕ) → j < k → row_number t j ≡ n → stands_before t k n ≡ true
  unfolding stands_before
  stands_at j zero h e = absurd (omega arith)
  stands_at j (suc k) h e = go (ℕ_discrete j k) (stands_at j k)
    where
      go : Dec (j ≡ k) → (j < k → row_number t j ≡ n → stands_before t k n ≡ true) → stands_before t (suc k) n ≡ true
      go (yes i) r = rw (eq-eqb (row_number t k) n (ap (row_number t) (sym i) ∙ e))
      go (no i) r = rw (r (omega arith) e, or_true)

  pub stands_more : (k : ℕ) → stands_before t k n ≡ false → (row_number t k ≡ n → ⊥) → stands_before t (k + 1) n ≡ false
  unfolding stands_before
  stands_more k s e = rw (add-one k, ne_eqb (row_number t k) n e) s
