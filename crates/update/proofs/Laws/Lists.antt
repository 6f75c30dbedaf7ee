-- Nodes of rows in a list, where one row is written, added, or filled by the last. Assumes nothing.
use Prim.Native.Nat.{ℕ, suc, ◌+◌, ◌-◌, ◌≤◌, ◌<◌}
use mathlib.Core.Path.{◌≡◌, refl, sym, ◌∙◌, ap, ap₂, subst}
use mathlib.Core.List.{List, [], ◌∷◌, ◌++◌, append-nil, Memᴰ}
use native.Mathlib.Decide.{ℕ_discrete}
use native.Mathlib.Omega.{arith}
use Rattle.matching.specs.Definitions.Lists.{Reordered, same, swap, skip, then}
use Rattle.matching.specs.Definitions.Nodes.{Node, Absent}
use Rattle.matching.specs.Definitions.Edits.{depart}
use Rattle.matching.specs.Definitions.Columns.{tabulate}
use Rattle.matching.proofs.Laws.Columns.{tabulate_all, tabulate_cong, tabulate_snoc, tabulate_split}
use Rattle.update.specs.Departures.{depart_absent, depart_at}

-- The other way round, behind some nodes, and with one of them put first.
reversed : {A C : List Node} → Reordered A C → Reordered C A
reversed same = same
reversed (swap v w) = swap w v
reversed (skip v r) = skip v (reversed r)
reversed (then r s) = then (reversed s) (reversed r)

behind : (D : List Node) {A C : List Node} → Reordered A C → Reordered (D ++ A) (D ++ C)
behind [] r = r
behind (v ∷ D) r = skip v (behind D r)

pub put_first : (A : List Node) (v : Node) (C : List Node) → Reordered (A ++ (v ∷ C)) (v ∷ (A ++ C))
put_first [] v C = same
put_first (w ∷ A) v C = then (skip w (put_first A v C)) (swap w v)

pub in_middle : (A : List Node) (v : Node) (C : List Node) → Memᴰ v (A ++ (v ∷ C))
in_middle [] v C = Memᴰ.head refl
in_middle (w ∷ A) v C = Memᴰ.tail (in_middle A v C)

-- The nodes before and after row i.
module _ (f : ℕ → Node) (first : ℕ) where
  abbrev before : ℕ → List Node
  before i = tabulate f first (i - first)

  abbrev after : ℕ → ℕ → List Node
  after n i = tabulate f (suc i) (first + n - suc i)

  around : (n i : ℕ) → first ≤ i → i < first + n → tabulate f first n ≡ before i ++ (f i ∷ after n i)
  unfolding tabulate
  around n i l h =
      let m : n ≡ (i - first) + suc (first + n - suc i) = omega arith in
      let j : first + (i - first) ≡ i = omega arith in
      ap (tabulate f first) m
      ∙ tabulate_split f first (i - first) (suc (first + n - suc i))
      ∙ ap (λ (k : ℕ). before i ++ tabulate f k (suc (first + n - suc i))) j

  -- No row before row i has the number z.
  module _ (z i : ℕ) (l : first ≤ i) (none : (j : ℕ) → first ≤ j → j < i → (f j).number ≡ z → ⊥) where
    free : Absent z (before i)
    free = tabulate_all (λ w. z ≡ w.number → ⊥) f first (i - first) (λ j a b e. none j a (omega arith) (sym e))

    depart_row : (n : ℕ) → i < first + n → (f i).number ≡ z → depart z (tabulate f first n) ≡ before i ++ after n i
    depart_row n h e = ap (depart z) (around n i l h) ∙ depart_at z (before i) (f i) (after n i) free e

    -- Where row i is the end, there is nothing to depart.
    pub depart_none : (n : ℕ) → i ≡ first + n → depart z (tabulate f first n) ≡ tabulate f first n
    depart_none n e = let m : i - first ≡ n = omega arith in depart_absent z (tabulate f first n) (subst (λ (k : ℕ). Absent z (tabulate f first k)) m free)

-- Nodes g of the same rows, but for row i.
module _ (f g : ℕ → Node) (first i : ℕ) (l : first ≤ i) (keeps : (j : ℕ) → (j ≡ i → ⊥) → g j ≡ f j) where
  written : (n : ℕ) → i < first + n → tabulate g first n ≡ before f first i ++ (g i ∷ after f first n i)
  written n h =
      around g first n i l h
      ∙ ap₂ (λ (A C : List Node). A ++ (g i ∷ C))
      (tabulate_cong g f first (i - first) (λ j a b. keeps j (λ e. omega arith)))
      (tabulate_cong g f (suc i) (first + n - suc i) (λ j a b. keeps j (λ e. omega arith)))

  -- The node g i and nodes D, which are those of the other rows in some order.
  put_in : {A D : List Node} (n : ℕ) → i < first + n → Reordered A (g i ∷ D) → Reordered D (before f first i ++ after f first n i)
      → Reordered A (tabulate g first n)
  put_in n h r s = rw (written n h) (then r (then (skip (g i) s) (reversed (put_first (before f first i) (g i) (after f first n i)))))

  -- Row i is written anew,
  pub one_written : {A : List Node} (z n : ℕ) → i < first + n → ((j : ℕ) → first ≤ j → j < i → (f j).number ≡ z → ⊥) → (f i).number ≡ z
      → Reordered A (g i ∷ depart z A) → Reordered (depart z A) (depart z (tabulate f first n)) → Reordered A (tabulate g first n)
  one_written z n h none e r s = put_in n h r (rw (depart_row f first z i l none n h e) at s)

  -- one more,
  pub one_more : {A : List Node} (z n : ℕ) → i ≡ first + n → ((j : ℕ) → first ≤ j → j < i → (f j).number ≡ z → ⊥)
      → Reordered A (g i ∷ depart z A) → Reordered (depart z A) (depart z (tabulate f first n)) → Reordered A (tabulate g first (n + 1))
  unfolding tabulate
  one_more {A} z n e none r s =
      let m : n ≡ i - first = omega arith in
      let q : first + (n + 1) - suc i ≡ 0 = omega arith in
      put_in (n + 1) (omega arith) r
      (subst (λ (C : List Node). Reordered (depart z A) C)
      (depart_none f first z i l none n e
      ∙ ap (tabulate f first) m
      ∙ sym (append-nil (before f first i))
      ∙ ap (λ (k : ℕ). before f first i ++ tabulate f (suc i) k) (sym q))
      s)

  -- or filled by the last row, which goes.
  last_filled : (n : ℕ) → i ≤ first + n → g i ≡ f (first + n) → Reordered (before f first i ++ after f first (n + 1) i) (tabulate g first n)
  unfolding tabulate
  last_filled n h e = go (ℕ_discrete i (first + n))
    where
      go : Dec (i ≡ first + n) → Reordered (before f first i ++ after f first (n + 1) i) (tabulate g first n)
      go (yes d) =
          let m : i - first ≡ n = omega arith in
          let q : first + (n + 1) - suc i ≡ 0 = omega arith in
          rw (m, q, append-nil (tabulate f first n), tabulate_cong g f first n (λ j a b. keeps j (λ k. omega arith))) same
      go (no d) =
          let q : first + (n + 1) - suc i ≡ suc (first + n - suc i) = omega arith in
          let k : suc i + (first + n - suc i) ≡ first + n = omega arith in
          rw (written n (omega arith), q, tabulate_snoc f (suc i) (first + n - suc i), k, e)
          (behind (before f first i) (rw append-nil at (put_first (after f first n i) (f (first + n)) [])))

  pub one_less : {A : List Node} (z n : ℕ) → i ≤ first + n → ((j : ℕ) → first ≤ j → j < i → (f j).number ≡ z → ⊥) → (f i).number ≡ z → g i ≡ f (first + n)
      → depart z A ≡ A → Reordered (depart z A) (depart z (tabulate f first (n + 1))) → Reordered A (tabulate g first n)
  one_less z n h none e d a s = then (rw (a, depart_row f first z i l none (n + 1) (omega arith) e) at s) (last_filled n h d)
