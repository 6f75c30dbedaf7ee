-- A used-up row leaves its list. Assumes nothing.
use Prim.Native.Nat.{ℕ, ◌-◌, ◌<◌, ◌≤◌}
use mathlib.Core.Path.{◌≡◌, sym, ◌∙◌, ap}
use mathlib.Core.List.{List}
use native.Mathlib.Decide.{ℕ_discrete}
use native.Mathlib.Omega.{arith}
use lib.IntN.{ℤ}
use lib.ListN.{get_or}
use Rattle.matching.specs.Definitions.Sizes.{set_rows}
use Rattle.closest.specs.declared.live.Lists.{Lists}
use Rattle.closest.specs.Live.{row_at, spot_of, Elsewhere, May, Sized, entered, Holds, Live, Refreshed, stays, leaves}
use Rattle.closest.proofs.Laws.Live.{same_refl, entered_size, row_here, spot_here, row_other, spot_other, holds_here, holds_other, apart}

module _ (ns : List ℕ) (at : List (List ℤ)) where
  -- A row of the list has lost something, and no other of its rows.
  module _ (left less : List ℕ) (Q : Lists) (first end e row : ℕ) (z : Sized ns at Q) (l : Live ns at left Q first end e) (room : end ≤ set_rows)
      (low : first ≤ row) (high : row < end) (was : 1 ≤ get_or left row 0)
      (lower : (q : ℕ) → get_or less q 0 ≤ get_or left q 0) (off : (q : ℕ) → first ≤ q → q < end → (q ≡ row → ⊥) → get_or less q 0 ≡ get_or left q 0) where
    abbrev place : ℕ
    place = spot_of Q row

    abbrev last : ℕ
    last = row_at Q.listed (e - 1)

    listed : (first ≤ place) × (place < e) × (row_at Q.listed place ≡ row)
    listed = l.all row low high was

    tail : (first ≤ last) × (last < end)
    tail = l.on (e - 1) (omega (arith, listed)) (omega (arith, listed))

    pub may_refresh : May Q row e
    may_refresh = record { low = omega arith; place = omega (arith, listed, l.high); some = omega (arith, listed); room = omega (arith, l.high); last = omega (arith, tail) }

    stay : (get_or less row 0 ≡ 0 → ⊥) → Live ns at less Q first end e
    stay d = record {
      low = l.low;
      high = l.high;
      holds = l.holds;
      on = l.on;
      alive = λ k a b. alive k a b (ℕ_discrete (row_at Q.listed k) row);
      all = λ r a b v. l.all r a b (omega (arith, lower r));
    }
      where
        alive : (k : ℕ) → first ≤ k → k < e → Dec (row_at Q.listed k ≡ row) → 1 ≤ get_or less (row_at Q.listed k) 0
        alive k a b (yes f) = rw f (omega arith)
        alive k a b (no f) = rw (off (row_at Q.listed k) (l.on k a b).0 (l.on k a b).1 f) (l.alive k a b)

    abbrev P : Lists
    P = entered ns at Q place last

    in_w : place < set_rows
    in_w = omega (arith, listed, l.high)

    in_r : last < set_rows
    in_r = omega (arith, tail)

    leave : get_or less row 0 ≡ 0 → Live ns at less P first end (e - 1)
    leave gone = record {
      low = omega (arith, listed);
      high = omega (arith, l.high);
      holds = λ k a b. holds k a b (ℕ_discrete k place);
      on = λ k a b. on k a b (ℕ_discrete k place);
      alive = λ k a b. alive k a b (ℕ_discrete k place);
      all = λ r a b v. all r a b v (ℕ_discrete r last);
    }
      where
        -- no row is listed twice
        once : (k : ℕ) → first ≤ k → k < e - 1 → row_at Q.listed k ≡ last → ⊥
        once k a b f = omega (arith, (l.holds k a (omega arith)).spot, ap (spot_of Q) f, (l.holds (e - 1) (omega (arith, listed)) (omega (arith, listed))).spot)

        -- a place that is not the row's has another row
        not_row : (k : ℕ) → first ≤ k → k < e → (k ≡ place → ⊥) → row_at Q.listed k ≡ row → ⊥
        not_row k a b d f = d (sym (l.holds k a b).spot ∙ ap (spot_of Q) f)

        holds : (k : ℕ) → first ≤ k → k < e - 1 → Dec (k ≡ place) → Holds ns at P k
        holds k a b (yes d) = rw d (holds_here ns at Q place last z in_w in_r)
        holds k a b (no d) = holds_other ns at Q place last z in_w in_r k d (once k a b) (l.holds k a (omega arith))

        on : (k : ℕ) → first ≤ k → k < e - 1 → Dec (k ≡ place) → (first ≤ row_at P.listed k) × (row_at P.listed k < end)
        on k a b (yes d) = rw (d, row_here ns at Q place last z in_w in_r) tail
        on k a b (no d) = rw (row_other ns at Q place last z in_w in_r k d) (l.on k a (omega arith))

        alive : (k : ℕ) → first ≤ k → k < e - 1 → Dec (k ≡ place) → 1 ≤ get_or less (row_at P.listed k) 0
        alive k a b (yes d) =
            rw (d, row_here ns at Q place last z in_w in_r, off last tail.0 tail.1 (not_row (e - 1) (omega (arith, listed)) (omega (arith, listed)) (λ f. omega arith)))
            (l.alive (e - 1) (omega (arith, listed)) (omega (arith, listed)))
        alive k a b (no d) =
            let o = l.on k a (omega arith) in
            rw (row_other ns at Q place last z in_w in_r k d, off (row_at Q.listed k) o.0 o.1 (not_row k a (omega arith) d)) (l.alive k a (omega arith))

        all : (r : ℕ) → first ≤ r → r < end → 1 ≤ get_or less r 0 → Dec (r ≡ last)
            → (first ≤ spot_of P r) × (spot_of P r < e - 1) × (row_at P.listed (spot_of P r) ≡ r)
        all r a b v (yes d) =
            rw (d, spot_here ns at Q place last z in_w in_r)
            (listed.0, before (ℕ_discrete place (e - 1)), row_here ns at Q place last z in_w in_r)
          where
            before : Dec (place ≡ e - 1) → place < e - 1
            before (yes f) = absurd (omega (arith, gone, ap (λ (i : ℕ). get_or less i 0) (d ∙ sym (ap (row_at Q.listed) f) ∙ listed.2)))
            before (no f) = omega (arith, listed)
        all r a b v (no d) =
            rw (spot_other ns at Q place last z in_w in_r r d)
            (o.0, before (ℕ_discrete (spot_of Q r) (e - 1)), row_other ns at Q place last z in_w in_r (spot_of Q r) not_place ∙ o.2)
          where
            o : (first ≤ spot_of Q r) × (spot_of Q r < e) × (row_at Q.listed (spot_of Q r) ≡ r)
            o = l.all r a b (omega (arith, lower r))

            before : Dec (spot_of Q r ≡ e - 1) → spot_of Q r < e - 1
            before (yes f) = absurd (d (sym o.2 ∙ ap (row_at Q.listed) f))
            before (no f) = omega (arith, o.1)

            not_place : spot_of Q r ≡ place → ⊥
            not_place f = omega (arith, gone, ap (λ (i : ℕ). get_or less i 0) (sym o.2 ∙ ap (row_at Q.listed) f ∙ listed.2))

    pub refreshed : (O : Lists) (r : ℕ) → Refreshed ns at less row e Q O r → Live ns at less O first end r × Elsewhere first end Q O × Sized ns at O
    refreshed O r (stays d f g) = rw (f, g) (stay d, (λ k h. same_refl Q k), z)
    refreshed O r (leaves d f g) =
        rw (f, g) (leave d, (λ k h. apart ns at Q place last z in_w in_r k (λ q. h (omega (arith, listed)) (omega (arith, listed, l.high))) (λ q. h (omega (arith, tail)) (omega (arith, tail)))), entered_size ns at Q place last z in_w in_r)
