-- The search for the nearest of the listed rows: one place at a time, one block at a time. Assumes nothing.
use Prim.Native.Nat.{ℕ, ◌+◌, ◌/◌, ◌<◌, ◌≤◌}
use mathlib.Core.Path.{◌≡◌, refl, sym, subst}
use mathlib.Core.Bool.{cond}
use mathlib.Core.List.{List, []}
use native.Mathlib.Decide.{ℕ_discrete, dec_lt}
use native.Mathlib.Omega.{arith}
use lib.Dec.{ltb}
use lib.ListN.{get_or}
use lib.IntN.{ℤ}
use borrow.Author.Tests.{lt-ltb, le-ltb}
use Rattle.matching.specs.declared.Range.{Range}
use Rattle.matching.specs.Definitions.Sizes.{block_rows}
use Rattle.matching.specs.Definitions.Rows.{x_at, y_at, key}
use Rattle.boxes.specs.Boxes.{Clear}
use Rattle.closest.specs.declared.nearest.Near.{Near}
use Rattle.closest.specs.Live.{number_at}
use Rattle.closest.specs.Blocks.{start, Block, Aligned, end_of, least_of, Boxed}
use Rattle.closest.specs.Nearest.{nearer, apart, seen, Keyed, Came, kept, found, Sought, From, seed, block, Visited, Scanned}

module _ (p : List ℤ) (listed : List (List ℕ)) (points : List (List ℤ)) (first : ℕ) where
  -- No place yet.
  pub sought_none : (end : ℕ) (s : Near) → end ≤ first → Sought p listed points first end s s
  sought_none end s h = record { less = omega arith; least = λ k a b. absurd (omega arith); came = kept refl }

  -- A place more.
  pub sought_on : (k : ℕ) (s r w : Near) (c : ℕ) → first ≤ k → Sought p listed points first k s r → Keyed p listed points k c → w ≡ nearer r c k → Sought p listed points first (k + 1) s w
  unfolding nearer
  sought_on k s r w c low v q e = subst (Sought p listed points first (k + 1) s) (sym e) (go (dec_lt c r.key))
    where
      -- what holds of the places before and of this one
      more : (m : ℕ) → ((i : ℕ) → first ≤ i → i < k → m ≤ seen p listed points i) → m ≤ seen p listed points k → (i : ℕ) → first ≤ i → i < k + 1 → m ≤ seen p listed points i
      more m f g i a b = at (ℕ_discrete i k)
        where
          at : Dec (i ≡ k) → m ≤ seen p listed points i
          at (yes d) = rw d g
          at (no d) = f i a (omega arith)

      came : Came p listed points first k s r → Came p listed points first (k + 1) s r
      came (kept d) = kept d
      came (found a b d) = found a (omega arith) d

      go : Dec (c < r.key) → Sought p listed points first (k + 1) s (cond (ltb c r.key) (record { key = c; at = k }) r)
      go (yes l) =
          rw (lt-ltb c r.key l)
          (record { less = omega (arith, v.less); least = more c (λ i a b. omega (arith, v.least i a b)) (omega (arith, q.is)); came = found low (omega arith) q })
      go (no l) =
          rw (le-ltb c r.key (omega arith))
          (record { less = v.less; least = more r.key v.least (omega (arith, q.is)); came = came v.came })

  -- A block is too far away: no place in its box has a lesser key.
  pub sought_skip : (E : List (List ℕ)) (X : List (List ℤ)) (b end d : ℕ) (s : Near) → Boxed (number_at listed) points E X b first end → Clear p (get_or X b []) d → s.key ≤ key d (least_of E b)
      → Sought p listed points first end s s
  unfolding apart
  sought_skip E X b end d s x c h = record { less = omega arith; least = λ k f g. omega (arith, c.nearest (x_at points k) (y_at points k) (x.around.holds k f g), x.least k f g); came = kept refl }

module _ (p : List ℤ) (listed : List (List ℕ)) (points : List (List ℤ)) (E : List (List ℕ)) (f : Range) (u : Aligned f) (s : Near) where
  pub visited_none : Visited p listed points E f (f.from / block_rows) s s
  visited_none = record { less = omega arith; least = λ b h l. absurd (omega (arith, u.begins)); came = seed refl }

  module _ (n : ℕ) (r : Near) (v : Visited p listed points E f n s r) where
    -- A block more.
    pub visited_on : (w : Near) → Block f n → Sought p listed points (start n) (end_of E n) r w → Visited p listed points E f (n + 1) s w
    visited_on w at_n g = record { less = omega (arith, v.less, g.less); least = λ b h l. least b h l (ℕ_discrete b n); came = came g.came v.came }
      where
        least : (b : ℕ) → Block f b → b < n + 1 → Dec (b ≡ n) → (k : ℕ) → start b ≤ k → k < end_of E b → w.key ≤ seen p listed points k
        least b h l (yes d) = rw d g.least
        least b h l (no d) = λ k a o. omega (arith, v.least b h (omega arith) k a o, g.less)

        came : Came p listed points (start n) (end_of E n) r w → From p listed points E f s r → From p listed points E f s w
        came (kept d) o = subst (From p listed points E f s) (sym d) o
        came (found a b d) o = block n at_n a b d

    pub visited_all : f.to ≤ start n → Scanned p listed points E f s r
    visited_all done = record { less = v.less; least = λ b h l. v.least b h (omega arith); came = v.came }
