-- A search from the front, one place at a time, as a loop makes it: e is the end.
use Rattle.std.specs.Prelude.{ℕ, suc, ◌+◌, ◌-◌, ◌<◌, ◌≤◌, ◌≡◌, Bool, true, false, Some, None}
use Rattle.std.proofs.Common.{◌∙◌}
use Rattle.std.proofs.Math.Path.{ap}
use native.Mathlib.Omega.{arith}
use Rattle.tables.specs.Definitions.Rows.{first_from, all_from}

-- One place of those left.
more : (k e : ℕ) → k < e → e - k ≡ suc (e - (k + 1))
more k e h = omega arith

next : (k : ℕ) → suc k ≡ k + 1
next k = omega arith

module _ (p : ℕ → Bool) (k e : ℕ) where
  pub first_here : k < e → p k ≡ true → first_from p k (e - k) ≡ Some k
  unfolding first_from
  first_here h t = rw (more k e h, t)

  pub first_on : k < e → p k ≡ false → first_from p k (e - k) ≡ first_from p (k + 1) (e - (k + 1))
  unfolding first_from
  first_on h t = ap (first_from p k) (more k e h) ∙ rw (t, next k)

  pub first_done : e ≤ k → first_from p k (e - k) ≡ None
  unfolding first_from
  first_done h = let z : e - k ≡ 0 = omega arith in rw z

  pub all_here : k < e → p k ≡ false → all_from p k (e - k) ≡ false
  unfolding all_from
  all_here h t = rw (more k e h, t)

  pub all_on : k < e → p k ≡ true → all_from p k (e - k) ≡ all_from p (k + 1) (e - (k + 1))
  unfolding all_from
  all_on h t = ap (all_from p k) (more k e h) ∙ rw (t, next k)

  pub all_done : e ≤ k → all_from p k (e - k) ≡ true
  unfolding all_from
  all_done h = let z : e - k ≡ 0 = omega arith in rw z
