-- The refusal, place by place, once the earlier places have passed.
use Rattle.std.specs.Prelude.{ℕ, ◌≡◌, Bool, not, ◌&&◌, ◌||◌, length, Option, None, Some}
use Rattle.std.proofs.Math.Path.{refl}
use Rattle.std.proofs.Common.{◌∙◌, true≢false, eqb-true}
use Rattle.std.proofs.Math.Bool.{true, false, cond}
use Rattle.std.proofs.lemmas.Bool.{false≢true, not-true}
use mathlib.Core.List.{List, [], ◌∷◌}
use Rattle.matching.specs.Definitions.Lists.{All}
use Rattle.tables.specs.Definitions.Sizes.{list_size}
use Rattle.tables.specs.Definitions.Tables.{first_fault, Accepted}
use Rattle.tables.specs.Definitions.Lists.{finished, first_difference, zero_from}
use Rattle.tables.specs.Laws.Rows.{and_split}
use Rattle.contract.specs.Definitions.Answers.{Answer, refused, refusal_number, order}
use Rattle.contract.specs.declared.Refusal.{Refusal}
use Rattle.contract.specs.declared.Refusal.TheVariants.{Length, TableA, TableB, Damaged, Unfinished}
use Rattle.contract.specs.Definitions.Buffers.{Buffers, lent, Lengths, lengths_of, Drawing, drawn}
use Rattle.contract.specs.Definitions.Shapes.{reads, needs_all, Test, Shape}
use Rattle.contract.specs.Definitions.Requests.{pair_shape, step_shape}
use Rattle.contract.specs.Definitions.Refusals.{lengths_right, faulty_row, row_that, damaged_row, unfinished_row, same, own, place, first_of, refusal}
use Rattle.contract.proofs.Laws.Order.{placed, every, same_number}
use Rattle.contract.proofs.Laws.Table.{ahead_of, first_at}
use Rattle.contract.proofs.Laws.Tests.{generals, is_own}
use Rattle.contract.proofs.Laws.Conditions.{stated_right, place-own}

-- The refusals of a list that pass a test.
abbrev pub pick : (Refusal → Bool) → List Refusal → List Refusal
pick p [] = []
pick p (r ∷ rs) = cond (p r) (r ∷ pick p rs) (pick p rs)

-- The own refusals among those ahead of r, and the general ones.
abbrev pub own_ahead : Refusal → List Refusal
own_ahead r = pick is_own (ahead_of r order)

abbrev pub general_ahead : Refusal → List Refusal
general_ahead r = pick (λ p. not (is_own p)) (ahead_of r order)

-- A call that judges the tables comes to the place of r: no own test ahead of that place fits.
pub record Tried (x : Shape) (d : Drawing) (r : Refusal) : Type 0 where
  pub judges : x.judges ≡ true
  pub early : All (λ p. own p x.tests d ≡ None) (own_ahead r)

-- So it is for a call that has no test ahead of that place.
abbrev pub lacks : List Test → Refusal → Bool
lacks [] p = true
lacks (t ∷ ts) p = not (same p t.refusal) && lacks ts p

lacks-none : (ts : List Test) (d : Drawing) (p : Refusal) → lacks ts p ≡ true → own p ts d ≡ None
unfolding own
lacks-none [] d p e = refl
lacks-none (t ∷ ts) d p e =
    let g = and_split (not (same p t.refusal)) (lacks ts p) e in
    rw (not-true (same p t.refusal) g.0) (lacks-none ts d p g.1)

pub tried : (x : Shape) (d : Drawing) (r : Refusal) → x.judges ≡ true → every (lacks x.tests) (own_ahead r) ≡ true → Tried x d r
tried x d r j e = record { judges = j; early = go (own_ahead r) e }
  where
    go : (ps : List Refusal) → every (lacks x.tests) ps ≡ true → All (λ p. own p x.tests d ≡ None) ps
    go [] e = tt
    go (p ∷ ps) e = let g = and_split (lacks x.tests p) (every (lacks x.tests) ps) e in (lacks-none x.tests d p g.0, go ps g.1)

-- A call that comes to the place of r has come to every place ahead of it.
abbrev pub contains : Refusal → List Refusal → Bool
contains p [] = false
contains p (q ∷ rs) = same p q || contains p rs

fewer : (P : Refusal → Type 0) (p r : Refusal) (rs : List Refusal) → contains p (ahead_of r rs) ≡ true → All P (pick is_own (ahead_of r rs)) → All P (pick is_own (ahead_of p rs))
fewer P p r [] e h = tt
fewer P p r (q ∷ rs) e h = go (same r q) (same p q) refl e h (fewer P p r rs)
  where
    go : (b c : Bool) → same p q ≡ c → contains p (cond b [] (q ∷ ahead_of r rs)) ≡ true → All P (pick is_own (cond b [] (q ∷ ahead_of r rs)))
        → (contains p (ahead_of r rs) ≡ true → All P (pick is_own (ahead_of r rs)) → All P (pick is_own (ahead_of p rs))) → All P (pick is_own (cond c [] (q ∷ ahead_of p rs)))
    go b true i e h k = tt
    go true false i e h k = absurd (false≢true e)
    go false false i e h k = own_head (is_own q) h (k (rw i at e))
      where
        own_head : (b : Bool) → All P (cond b (q ∷ pick is_own (ahead_of r rs)) (pick is_own (ahead_of r rs))) → (All P (pick is_own (ahead_of r rs)) → All P (pick is_own (ahead_of p rs)))
            → All P (cond b (q ∷ pick is_own (ahead_of p rs)) (pick is_own (ahead_of p rs)))
        own_head true h k = (h.0, k h.1)
        own_head false h k = k h

pub tried_ahead : {x : Shape} {d : Drawing} (p r : Refusal) → contains p (ahead_of r order) ≡ true → Tried x d r → Tried x d p
tried_ahead {x} {d} p r e t = record { judges = t.judges; early = fewer (λ q. own q x.tests d ≡ None) p r order e t.early }

-- What a call's own tests answer, where nothing else is refused.
unfoldable pub own_answer : Shape → Drawing → Option Answer
unfolding first_of own
own_answer x d = first_of (λ r. own r x.tests d) (pick is_own order)

module _ (s : Lengths) (x : Shape) (h : Buffers) where
  ahead_passed : (rs : List Refusal) → All (λ p. place s x h p ≡ None) (pick (λ p. not (is_own p)) rs) → All (λ p. own p x.tests (drawn h) ≡ None) (pick is_own rs) → All (λ p. place s x h p ≡ None) rs
  ahead_passed [] g o = tt
  ahead_passed (p ∷ rs) g o = go (is_own p) refl g o (ahead_passed rs)
    where
      go : (b : Bool) → is_own p ≡ b → All (λ p. place s x h p ≡ None) (cond (not b) (p ∷ pick (λ p. not (is_own p)) rs) (pick (λ p. not (is_own p)) rs))
          → All (λ p. own p x.tests (drawn h) ≡ None) (cond b (p ∷ pick is_own rs) (pick is_own rs))
          → (All (λ p. place s x h p ≡ None) (pick (λ p. not (is_own p)) rs) → All (λ p. own p x.tests (drawn h) ≡ None) (pick is_own rs) → All (λ p. place s x h p ≡ None) rs)
          → All (λ p. place s x h p ≡ None) (p ∷ rs)
      go true i g o k = (place-own s x h p i ∙ o.0, k g o.1)
      go false i g o k = (g.0, k g.1 o)

  -- A general place that fits is given, where the general ones ahead and the own tests ahead have passed.
  at_place : (r : Refusal) (v : ℕ) → Tried x (drawn h) r → All (λ p. place s x h p ≡ None) (general_ahead r) → place s x h r ≡ Some v → refusal s x h ≡ Some (refused r v)
  unfolding refusal
  at_place r v t g e = first_at (place s x h) order r v (ahead_passed (ahead_of r order) g t.early) (placed r) e

  general_in : (ps : List Refusal) → All (λ p. place s x h p ≡ None) ps → (r : Refusal) → every (λ p. not (same r p)) ps ≡ false → place s x h r ≡ None
  general_in [] g r e = absurd (true≢false e)
  general_in (p ∷ ps) g r e = go (same r p) refl e (general_in ps g.1 r)
    where
      go : (b : Bool) → same r p ≡ b → (not b && every (λ p. not (same r p)) ps) ≡ false → (every (λ p. not (same r p)) ps ≡ false → place s x h r ≡ None) → place s x h r ≡ None
      go true i e k = rw (same_number r p (eqb-true (refusal_number r) (refusal_number p) i)) g.0
      go false i e k = k e

  -- Where all general places pass, only the call's own tests are left.
  own_left : All (λ p. place s x h p ≡ None) generals → (rs : List Refusal) → first_of (place s x h) rs ≡ first_of (λ r. own r x.tests (drawn h)) (pick is_own rs)
  unfolding first_of
  own_left g [] = refl
  own_left g (p ∷ rs) = go (is_own p) refl (own_left g rs)
    where
      go : (b : Bool) → is_own p ≡ b → first_of (place s x h) rs ≡ first_of (λ r. own r x.tests (drawn h)) (pick is_own rs)
          → first_of (place s x h) (p ∷ rs) ≡ first_of (λ r. own r x.tests (drawn h)) (cond b (p ∷ pick is_own rs) (pick is_own rs))
      go true i k = rw (place-own s x h p i, k)
      go false i k = rw (general_in generals g p i) k

judged : (x : Shape) (t : List ℕ) (o : Option ℕ) → x.judges ≡ true → first_fault t ≡ o → faulty_row x t ≡ o
unfolding faulty_row
judged x t o j f = rw (j, f)

module _ (s : Lengths) (x : Shape) (h : Buffers) (e : lengths_right s x ≡ true) where
  abbrev passes : Refusal → Type 0
  passes r = place s x h r ≡ None

  long : passes Length
  unfolding place
  long = rw e

  pub faulty_a : Tried x (drawn h) TableA → (k : ℕ) → first_fault h.a ≡ Some k → refusal s x h ≡ Some (refused TableA k)
  unfolding place
  faulty_a t k fa = at_place s x h TableA k t (long, tt) (judged x h.a (Some k) t.judges fa)

  module _ (fa : first_fault h.a ≡ None) where
    sound_a : x.judges ≡ true → passes TableA
    unfolding place
    sound_a j = judged x h.a None j fa

    pub faulty_b : Tried x (drawn h) TableB → (k : ℕ) → first_fault h.b ≡ Some k → refusal s x h ≡ Some (refused TableB k)
    unfolding place
    faulty_b t k fb = at_place s x h TableB k t (long, (sound_a t.judges, tt)) (judged x h.b (Some k) t.judges fb)

    module _ (fb : first_fault h.b ≡ None) where
      sound_b : x.judges ≡ true → passes TableB
      unfolding place
      sound_b j = judged x h.b None j fb

      pub damaged : Tried x (drawn h) Damaged → (k : ℕ) → first_difference h.list (finished h.a h.b) ≡ Some k → reads x.list ≡ true → zero_from h.list k ≡ false → refusal s x h ≡ Some (refused Damaged k)
      unfolding place damaged_row
      damaged t k d r z = at_place s x h Damaged k t (long, (sound_a t.judges, (sound_b t.judges, tt))) (rw (d, r, z))

      pub unfinished : Tried x (drawn h) Unfinished → (k : ℕ) → first_difference h.list (finished h.a h.b) ≡ Some k → needs_all x.list ≡ true → zero_from h.list k ≡ true → refusal s x h ≡ Some (refused Unfinished k)
      unfolding place damaged_row unfinished_row
      unfinished t k d r z = at_place s x h Unfinished k t (long, (sound_a t.judges, (sound_b t.judges, (rw (d, z) (and_none (reads x.list)), tt)))) (rw (d, r, z))
        where
          and_none : (t : Bool) → cond (t && false) (Some k) None ≡ None
          and_none true = refl
          and_none false = refl

      -- Where the list passes, only the call's own tests are left;
      by_own : x.judges ≡ true → damaged_row x h ≡ None → unfinished_row x h ≡ None → refusal s x h ≡ own_answer x (drawn h)
      unfolding refusal own_answer
      by_own j u v = own_left s x h (long, (sound_a j, (sound_b j, (u, (v, tt))))) order

      -- so it is with the finished list.
      pub by_tests : x.judges ≡ true → first_difference h.list (finished h.a h.b) ≡ None → refusal s x h ≡ own_answer x (drawn h)
      by_tests j d = by_own j (unfold damaged_row in rw d) (unfold unfinished_row in rw d)

-- Pair and Step are refused for lengths, for tables, and Step for a damaged list.
no_row : (o : Option ℕ) → row_that (λ k. false) o ≡ None
no_row None = refl
no_row (Some k) = refl

module _ (a b l : List ℕ) (ha : Accepted a) (hb : Accepted b) (size : length l ≡ list_size) where
  abbrev h : Buffers
  h = lent a b l

  pub pair_passes : refusal (lengths_of h) pair_shape h ≡ None
  unfolding own_answer damaged_row unfinished_row
  pair_passes = by_own (lengths_of h) pair_shape h (stated_right (lengths_of h) pair_shape (record { a = ha.size; b = hb.size; list = size; own = refl })) ha.faultless hb.faultless refl
      (no_row (first_difference l (finished a b))) (no_row (first_difference l (finished a b)))

  pub step_passes : damaged_row step_shape h ≡ None → refusal (lengths_of h) step_shape h ≡ None
  unfolding own_answer unfinished_row
  step_passes d = by_own (lengths_of h) step_shape h (stated_right (lengths_of h) step_shape (record { a = ha.size; b = hb.size; list = size; own = refl })) ha.faultless hb.faultless refl
      d (no_row (first_difference l (finished a b)))
