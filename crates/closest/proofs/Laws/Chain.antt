-- The chain: no row stands on it twice; a row pushed, rows taken. Assumes nothing.
use Prim.Native.Nat.{ℕ, zero, suc, ◌+◌, ◌-◌, ◌<◌, ◌≤◌}
use mathlib.Core.Path.{◌≡◌, refl, sym, ◌∙◌, ap, subst}
use mathlib.Core.Bool.{cond}
use mathlib.Core.List.{List}
use Rattle.std.specs.Prelude.{Some}
use native.Mathlib.Decide.{ℕ_discrete, dec_lt}
use native.Mathlib.Omega.{arith}
use lib.Dec.{eqb, ltb}
use lib.ListN.{length, get_or, set, length-set}
use lib.Seq.{get_or-set_same, get_or-set_other}
use borrow.Author.Tests.{eq-eqb, ne_eqb, lt-ltb, le-ltb}
use Rattle.matching.specs.declared.Master.TheVariants.{A as master_a, B as master_b}
use Rattle.matching.specs.Definitions.Nodes.{other}
use Rattle.matching.specs.Definitions.Pairs.{Pair, Before}
use Rattle.matching.specs.Definitions.Sizes.{half, set_rows}
use Rattle.matching.specs.Definitions.Rows.{Spanned}
use Rattle.matching.proofs.Laws.Order.{before_trans}
use Rattle.matching.proofs.Laws.Earliest.{Leq, strictly, equally}
use Rattle.closest.specs.declared.chain.Move.TheVariants.{Take}
use Rattle.closest.specs.Sizes.{chain_rows}
use Rattle.closest.specs.Rows.{Rows, Held, far, Faces, faces, between, Sound}
use Rattle.closest.specs.Nearest.{Nearest, Chosen}
use Rattle.closest.specs.Chain.{Chain, Pushed, Decided, sides, Trimmed, kept, anew}
use Rattle.closest.proofs.Laws.Pairs.{far_swap, faces_swap, faces_self, between_swap, same_row, not_before}
use Rattle.closest.proofs.Laws.Spans.{held}

-- Different numbers below m are at most m.
replaced : (ℕ → ℕ) → ℕ → ℕ → ℕ → ℕ
replaced f n m h = cond (eqb (f h) m) (f n) (f h)

pub pigeonhole : (m n : ℕ) (f : ℕ → ℕ) → ((h : ℕ) → h < n → f h < m) → ((h k : ℕ) → h < k → k < n → f h ≡ f k → ⊥) → n ≤ m
unfolding replaced
pigeonhole m zero f low new = omega arith
pigeonhole zero (suc n) f low new = absurd (omega (arith, low 0 (omega arith)))
pigeonhole (suc m) (suc n) f low new = omega (arith, pigeonhole m n (replaced f n m) fewer apart)
  where
    hit : (h : ℕ) → f h ≡ m → replaced f n m h ≡ f n
    hit h e = rw (eq-eqb (f h) m e)

    miss : (h : ℕ) → (f h ≡ m → ⊥) → replaced f n m h ≡ f h
    miss h e = rw (ne_eqb (f h) m e)

    fewer : (h : ℕ) → h < n → replaced f n m h < m
    fewer h l = go (ℕ_discrete (f h) m) (ℕ_discrete (f n) m)
      where
        go : Dec (f h ≡ m) → Dec (f n ≡ m) → replaced f n m h < m
        go (yes e) (yes g) = absurd (new h n l (omega arith) (e ∙ sym g))
        go (yes e) (no g) = omega (arith, hit h e, low n (omega arith))
        go (no e) g = omega (arith, miss h e, low h (omega arith))

    apart : (h k : ℕ) → h < k → k < n → replaced f n m h ≡ replaced f n m k → ⊥
    apart h k l b q = go (ℕ_discrete (f h) m) (ℕ_discrete (f k) m)
      where
        go : Dec (f h ≡ m) → Dec (f k ≡ m) → ⊥
        go (yes e) (yes g) = new h k l (omega arith) (e ∙ sym g)
        go (yes e) (no g) = new k n b (omega arith) (sym (sym (hit h e) ∙ q ∙ miss k g))
        go (no e) (yes g) = new h n (omega arith) (omega arith) (sym (miss h e) ∙ q ∙ hit k g)
        go (no e) (no g) = new h k l (omega arith) (sym (miss h e) ∙ q ∙ miss k g)

module _ (R : Rows) (v : Spanned R.spans) (left chain : List ℕ) (n : ℕ) (c : Chain R left chain n) where
  -- No row stands on the chain twice: its nearest would be as early as a pair further up, which comes earlier.
  pub once : (h k : ℕ) → h < k → k < n → get_or chain h 0 ≡ get_or chain k 0 → ⊥
  once h k l b e = go (ℕ_discrete k (h + 1))
    where
      row : ℕ → ℕ
      row i = get_or chain i 0

      go : Dec (k ≡ h + 1) → ⊥
      go (yes q) = faces_self R v (subst (Faces R (row h)) (sym (e ∙ ap row q)) (c.facing h (omega arith)))
      go (no q) = not_before (c.nearest h (omega arith) (row g) (faces_swap R to) (c.alive g (omega arith)))
          (subst (λ (p : Pair). Before p (between R (row h) (row (h + 1)))) (ap (between R (row g)) back ∙ between_swap R v to) (c.falls h g (omega arith) (omega arith)))
        where
          g : ℕ
          g = k - 1

          back : row (g + 1) ≡ row h
          back = ap row (omega arith) ∙ sym e

          to : Faces R (row g) (row h)
          to = subst (Faces R (row g)) back (c.facing g (omega arith))

  pub depth_fits : n ≤ set_rows
  depth_fits = pigeonhole set_rows n (λ h. get_or chain h 0) (λ h l. (c.held h l).low) once

-- Of a chain of at most one row no row has a next one.
pub short : (R : Rows) (left chain : List ℕ) (n : ℕ) → n ≤ 1 → length chain ≡ chain_rows → ((h : ℕ) → h < n → Held R (get_or chain h 0)) → ((h : ℕ) → h < n → 1 ≤ get_or left (get_or chain h 0) 0) → Chain R left chain n
short R left chain n l e i a = record {
  room = e;
  held = i;
  alive = a;
  facing = λ h b. absurd (omega arith);
  nearest = λ h b. absurd (omega arith);
  falls = λ h k g b. absurd (omega arith);
}

-- A list with one element stored.
set_below : (l : List ℕ) (n w h : ℕ) → h < n → get_or (set l n w) h 0 ≡ get_or l h 0
set_below l n w h g = get_or-set_other l n h w 0 (λ e. omega arith)

set_at : (l : List ℕ) (n w h : ℕ) → n < length l → h ≡ n → get_or (set l n w) h 0 ≡ w
set_at l n w h g e = rw e (get_or-set_same l n w 0 g)

module _ (R : Rows) (left : List ℕ) (v : Sound R left) (chain : List ℕ) (n : ℕ) (c : Chain R left chain n) where
  abbrev row : ℕ → ℕ
  row h = get_or chain h 0

  pub room : n < length chain
  room = omega (arith, depth_fits R v.spans left chain n c, c.room)

  -- A chain with one row more.
  module _ (w : ℕ) (p : Pushed R left chain n w) where
    -- The new pair is earlier than the last,
    strict : (g : ℕ) → n ≡ g + 2 → Before (between R (row (g + 1)) w) (between R (row g) (row (g + 1)))
    strict g e = go (q.nearest (row g) down (c.alive g (omega arith)))
      where
        q : Chosen R left (row (g + 1)) w (far R (row (g + 1)) w)
        q = p.next (g + 1) (omega arith)

        down : Faces R (row (g + 1)) (row g)
        down = faces_swap R (c.facing g (omega arith))

        go : Leq (between R (row (g + 1)) w) (between R (row (g + 1)) (row g)) → Before (between R (row (g + 1)) w) (between R (row g) (row (g + 1)))
        go (strictly b) = subst (Before (between R (row (g + 1)) w)) (between_swap R v.spans down) b
        go (equally s) = absurd (p.new g e (same_row R v (row (g + 1)) w (row g) q.faces down s))

    -- and than all before it.
    later : (h k : ℕ) → h < k → n ≡ k + 1 → Before (between R (row k) w) (between R (row h) (row (h + 1)))
    later h k l e = subst (λ (i : ℕ). Before (between R (row i) w) (between R (row h) (row (h + 1)))) (omega arith) (go (ℕ_discrete h (k - 1)))
      where
        go : Dec (h ≡ k - 1) → Before (between R (row (k - 1 + 1)) w) (between R (row h) (row (h + 1)))
        go (yes q) = rw q (strict (k - 1) (omega arith))
        go (no q) = before_trans (strict (k - 1) (omega arith)) (c.falls h (k - 1) (omega arith) (omega arith))

    pub push : Chain R left (set chain n w) (n + 1)
    push = record { room = simp length-set c.room; held = held; alive = alive; facing = facing; nearest = nearest; falls = falls }
      where
        new : ℕ → ℕ
        new h = get_or (set chain n w) h 0

        top : (P : ℕ → Type 0) → ((h : ℕ) → h < n → P (row h)) → P w → (h : ℕ) → h < n + 1 → P (new h)
        top P f y h l = go (ℕ_discrete h n)
          where
            go : Dec (h ≡ n) → P (new h)
            go (yes e) = rw (set_at chain n w h room e) y
            go (no e) = rw (set_below chain n w h (omega arith)) (f h (omega arith))

        held : (h : ℕ) → h < n + 1 → Held R (new h)
        held = top (Held R) c.held p.held

        alive : (h : ℕ) → h < n + 1 → 1 ≤ get_or left (new h) 0
        alive = top (λ k. 1 ≤ get_or left k 0) c.alive p.alive

        -- what holds of each row and the next, at its height
        next : (P : ℕ → ℕ → ℕ → Type 0) → ((h : ℕ) → h + 1 < n → P h (row h) (row (h + 1))) → ((h : ℕ) → n ≡ h + 1 → P h (row h) w) → (h : ℕ) → h + 1 < n + 1 → P h (new h) (new (h + 1))
        next P f y h l = rw (set_below chain n w h (omega arith)) (go (ℕ_discrete (h + 1) n))
          where
            go : Dec (h + 1 ≡ n) → P h (row h) (new (h + 1))
            go (yes e) = rw (set_at chain n w (h + 1) room e) (y h (sym e))
            go (no e) = rw (set_below chain n w (h + 1) (omega arith)) (f h (omega arith))

        facing : (h : ℕ) → h + 1 < n + 1 → Faces R (new h) (new (h + 1))
        facing = next (λ h. Faces R) c.facing (λ h e. (p.next h e).faces)

        nearest : (h : ℕ) → h + 1 < n + 1 → Nearest R left (new h) (new (h + 1))
        nearest = next (λ h. Nearest R left) c.nearest (λ h e. (p.next h e).nearest)

        falls : (h k : ℕ) → h < k → k + 1 < n + 1 → Before (between R (new k) (new (k + 1))) (between R (new h) (new (h + 1)))
        falls h k l b =
            rw (set_below chain n w h (omega arith), set_below chain n w (h + 1) (omega arith))
            (next (λ g i j. h < g → Before (between R i j) (between R (row h) (row (h + 1)))) (λ g a q. c.falls h g q a) (λ g e q. later h g q e) k b l)

  -- The chain after rows lost something: cut short, or its top alone.
  pub cut : (left' chain' : List ℕ) (r : ℕ) → 2 ≤ n → ((q : ℕ) → get_or left' q 0 ≤ get_or left q 0) → ((h : ℕ) → h + 2 < n → get_or left' (get_or chain h 0) 0 ≡ get_or left (get_or chain h 0) 0)
      → Trimmed left' chain n chain' r → Chain R left' chain' r
  cut left' chain' r two low same (kept is less top) = rw is (record {
    room = c.room;
    held = λ h l. c.held h (omega arith);
    alive = λ h l. alive h l (dec_lt (h + 2) n);
    facing = λ h l. c.facing h (omega arith);
    nearest = λ h l k f a. c.nearest h (omega arith) k f (omega (arith, low k));
    falls = λ h k l b. c.falls h k l (omega arith);
  })
    where
      alive : (h : ℕ) → h < r → Dec (h + 2 < n) → 1 ≤ get_or left' (get_or chain h 0) 0
      alive h l (yes e) = omega (arith, same h e, c.alive h (omega arith))
      alive h l (no e) = top h l (omega arith)
  cut left' chain' r two low same (anew is one top) = rw (is, one) (short R left' (set chain 0 (row (n - 1))) 1 (omega arith) (simp length-set c.room) (λ h l. rw (first h l) (c.held (n - 1) (omega arith))) (λ h l. rw (first h l) top))
    where
      first : (h : ℕ) → h < 1 → get_or (set chain 0 (row (n - 1))) h 0 ≡ row (n - 1)
      first h l = set_at chain 0 (row (n - 1)) h (omega (arith, room)) (omega arith)

-- What the top's nearest row, at, decides.
module _ (R : Rows) (left : List ℕ) (v : Sound R left) (chain : List ℕ) (n : ℕ) (c : Chain R left chain n) (one : 1 ≤ n) (at d : ℕ) (q : Chosen R left (get_or chain (n - 1) 0) at d) where
  abbrev top : ℕ
  top = get_or chain (n - 1) 0

  pub may_push : (2 ≤ n → get_or chain (n - 2) 0 ≡ at → ⊥) → Pushed R left chain n at
  may_push new = record {
    held = on_other q.faces;
    alive = q.alive;
    next = λ h e. subst (λ (k : ℕ). Chosen R left (get_or chain k 0) at (far R (get_or chain k 0) at)) (omega arith)
        (record { faces = q.faces; alive = q.alive; is_d = refl; nearest = q.nearest });
    new = λ h e d. new (omega arith) (ap (λ (k : ℕ). get_or chain k 0) (omega arith) ∙ sym d);
  }
    where
      on_other : Faces R top at → Held R at
      on_other (faces m h g) = held R v.spans (other m) g

  pub may_take : 2 ≤ n → get_or chain (n - 2) 0 ≡ at → Decided R left chain n (Some (Take (sides top at d)))
  unfolding sides
  may_take two e = go q.faces
    where
      onto : Chosen R left at top d
      onto = record {
        faces = faces_swap R q.faces;
        alive = c.alive (n - 1) (omega arith);
        is_d = q.is_d ∙ far_swap R top at;
        nearest = subst (λ (i : ℕ). Nearest R left i top) e (subst (λ (k : ℕ). Nearest R left (get_or chain (n - 2) 0) (get_or chain k 0)) (omega arith) (c.nearest (n - 2) (omega arith)));
      }

      not_top : (h : ℕ) → h + 2 < n → get_or chain h 0 ≡ top → ⊥
      not_top h l = once R v.spans left chain n c h (n - 1) (omega arith) (omega arith)

      not_at : (h : ℕ) → h + 2 < n → get_or chain h 0 ≡ at → ⊥
      not_at h l d = once R v.spans left chain n c h (n - 2) (omega arith) (omega arith) (d ∙ sym e)

      go : Faces R top at → Decided R left chain n (Some (Take (cond (ltb top half) (record { a = top; b = at; distance = d }) (record { a = at; b = top; distance = d }))))
      go (faces master_a h g) =
          let l : top < half = omega (arith, v.spans.below) in
          rw (lt-ltb top half l) (record { deep = two; onto_j = q; onto_i = onto; not_i = not_top; not_j = not_at }, l)
      go (faces master_b h g) = rw (le-ltb top half (omega (arith, v.spans.above))) (record { deep = two; onto_j = onto; onto_i = q; not_i = not_at; not_j = not_top }, omega (arith, v.spans.below))
