-- Ranges of rows: what is written of them, and those of a set. Assumes nothing.
use Prim.Native.Nat.{ℕ, zero, suc, ◌<◌}
use mathlib.Core.Path.{◌≡◌, sym, ◌∙◌}
use mathlib.Core.Logic.{◌⊎◌, inl, inr}
use mathlib.Core.List.{List}
use native.Mathlib.Omega.{arith}
use lib.IntN.{ℤ}
use lib.ListN.{get_or}
use Rattle.matching.specs.declared.Range.{Range}
use Rattle.matching.specs.declared.Spans.{Spans}
use Rattle.matching.specs.Definitions.Rows.{Sorts, range, spans_of, Fit, Fits, On, Spanned}
use Rattle.matching.specs.declared.Master.{Master}
use Rattle.matching.specs.declared.Master.TheVariants.{A as master_a, B as master_b}
use Rattle.matching.specs.Definitions.Sizes.{set_rows}
use Rattle.stability.specs.Ranges.{OfSpans, OfSorts, Ranged, RangedSorts, Filled}

-- The rows from first to i.
abbrev pub up_to : ℕ → ℕ → Range
up_to first i = record { from = first; to = i }

-- Rows that are written.
module _ (P : ℕ → ℕ → ℕ → Type 0) where
  -- Rows of which none is written twice.
  pub filled_both : (R Q : ℕ → Type 0) (old mid new : List ℕ) → ((k : ℕ) → R k → Q k → ⊥) → Filled R P old mid → Filled Q P mid new → Filled (λ k. R k ⊎ Q k) P old new
  filled_both R Q old mid new apart a b = record {
    room = b.room ∙ a.room;
    rows = rows;
    others = λ k h. b.others k (λ q. h (inr q)) ∙ a.others k (λ r. h (inl r));
  }
    where
      rows : (k : ℕ) → R k ⊎ Q k → P k (get_or old k 0) (get_or new k 0)
      rows k (inl r) = rw (b.others k (λ q. apart k r q)) (a.rows k r)
      rows k (inr q) = rw (a.others k (λ r. apart k r q)) at (b.rows k q)

-- A master's rows in a set on which code works.
fit_ranged : {ns : List ℕ} {at : List (List ℤ)} {cs : List ℕ} {s : Spans} → Fit ns at cs s → (m : Master) → Ranged ns at (range s m)
fit_ranged f master_a = record { numbers = f.numbers; positions = f.positions; order = f.spans.order_a; most = f.spans.most_a; end = omega (arith, f.spans.below); inside = f.inside master_a }
fit_ranged f master_b = record { numbers = f.numbers; positions = f.positions; order = f.spans.order_b; most = f.spans.most_b; end = f.spans.end; inside = f.inside master_b }

-- No row is one of both masters, whatever the sorts.
pub on_one : {s u : Spans} → Spanned s → Spanned u → (i : ℕ) → On s master_a i → On u master_b i → ⊥
on_one s u i a b = omega (arith, s.below, u.above)

-- Rows of both sorts.
module _ {ns : List ℕ} {at : List (List ℤ)} {cs : List ℕ} {S : Sorts} (f : Fits ns at cs S) where
  pub fits_ranged : RangedSorts ns at S
  fits_ranged = (
    (fit_ranged (f.fit 0) master_a, fit_ranged (f.fit 0) master_b),
    fit_ranged (f.fit 1) master_a,
    fit_ranged (f.fit 1) master_b,
  )

  -- No row is of both sorts.
  pub sorts_apart : (k : ℕ) → OfSpans S.on k → OfSpans S.off k → ⊥
  sorts_apart k (inl h) (inl g) = omega (arith, f.ahead master_a)
  sorts_apart k (inl h) (inr g) = on_one (f.fit 0).spans (f.fit 1).spans k h g
  sorts_apart k (inr h) (inl g) = on_one (f.fit 1).spans (f.fit 0).spans k g h
  sorts_apart k (inr h) (inr g) = omega (arith, f.ahead master_b)

  pub in_set : (t : ℕ) (m : Master) (k : ℕ) → On (spans_of S t) m k → k < set_rows
  in_set t master_a k h = omega (arith, (f.fit t).spans.below)
  in_set t master_b k h = omega (arith, (f.fit t).spans.end)

  -- Rows of a master with one number are one row.
  pub fits_distinct : (m : Master) (t u i k : ℕ) → On (spans_of S t) m i → On (spans_of S u) m k → get_or ns i 0 ≡ get_or ns k 0 → i ≡ k
  fits_distinct m zero zero i k h g e = (f.fit 0).distinct m i k h g e
  fits_distinct m zero (suc u) i k h g e = absurd (f.apart m i k h g e)
  fits_distinct m (suc t) zero i k h g e = absurd (f.apart m k i g h (sym e))
  fits_distinct m (suc t) (suc u) i k h g e = (f.fit 1).distinct m i k h g e

pub of_sorts : (S : Sorts) (t : ℕ) (m : Master) (k : ℕ) → On (spans_of S t) m k → OfSorts S k
of_sorts S zero master_a k h = inl (inl h)
of_sorts S zero master_b k h = inl (inr h)
of_sorts S (suc t) master_a k h = inr (inl h)
of_sorts S (suc t) master_b k h = inr (inr h)

-- A thing for each master, of a type that goes by the master.
pub each_master : (P : Master → Type 0) → P master_a → P master_b → (m : Master) → P m
each_master P a b master_a = a
each_master P a b master_b = b
