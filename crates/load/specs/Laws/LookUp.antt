-- The look-up by number, one entry of a chain at a time. It says nothing of what the chains hold.
use Rattle.std.specs.Prelude.{ℕ, suc, ◌-◌, ◌<◌, ◌≤◌, ◌≡◌, List}
use Rattle.std.proofs.Math.Path.{sym, ap}
use Rattle.std.proofs.Common.{◌∙◌}
use native.Mathlib.Omega.{arith}
use Rattle.std.proofs.Math.ListN.{get_or}
use borrow.Author.Tests.{eq-eqb, ne_eqb, lt-ltb, le-ltb, le-leb, lt-leb}
use Rattle.matching.specs.declared.Range.{Range}
use Rattle.matching.specs.Definitions.Sizes.{node_rows}
use Rattle.load.specs.Index.{slot_of, walk, look_up, Found}

-- The walk from the entry i on, f entries at most, is the whole look-up.
pub record Walking (r : Range) (ns heads next : List ℕ) (n f i : ℕ) : Type 0 where
  pub rest : look_up r ns heads next n ≡ walk r ns next n f i

module _ {r : Range} {ns heads next : List ℕ} {n : ℕ} where
  pub walking_start : {i h : ℕ} → h ≡ slot_of r.from n → i ≡ get_or heads h 0 → Walking r ns heads next n node_rows i
  unfolding look_up
  walking_start e d = record { rest = ap (walk r ns next n node_rows) (sym (d ∙ ap (λ (k : ℕ). get_or heads k 0) e)) }

  none : look_up r ns heads next n ≡ r.to → Found r ns heads next n r.to
  none e = record { most = omega arith; low = λ h. absurd (omega arith); number = λ h. absurd (omega arith); same = sym e }

  module _ {f i : ℕ} (w : Walking r ns heads next n f i) where
    pub walking_done : f ≤ 0 → Found r ns heads next n r.to
    unfolding walk
    walking_done h = let e : f ≡ 0 = omega arith in none (w.rest ∙ rw e)

    module _ (h : 0 < f) where
      more : f ≡ suc (f - 1)
      more = omega arith

      pub walking_below : i ≤ r.from → Found r ns heads next n r.to
      unfolding walk
      walking_below l = none (w.rest ∙ rw (more, le-leb i r.from l))

      module _ (l : r.from < i) where
        pub walking_above : r.to < i → Found r ns heads next n r.to
        unfolding walk
        walking_above g = none (w.rest ∙ rw (more, lt-leb i r.from l, lt-ltb r.to i g))

        pub walking_here : i ≤ r.to → get_or ns (i - 1) 0 ≡ n → Found r ns heads next n (i - 1)
        unfolding walk
        walking_here g d = record {
          most = omega arith;
          low = λ b. omega arith;
          number = λ b. d;
          same = sym (w.rest ∙ rw (more, lt-leb i r.from l, le-ltb r.to i g, eq-eqb (get_or ns (i - 1) 0) n d));
        }

        pub walking_on : {g k : ℕ} → f ≡ suc g → i ≤ r.to → (get_or ns (i - 1) 0 ≡ n → ⊥) → k ≡ get_or next (i - 1) 0 → Walking r ns heads next n g k
        unfolding walk
        walking_on {g} q h d e = record {
          rest = w.rest
              ∙ ap (λ (m : ℕ). walk r ns next n m i) q
              ∙ rw (lt-leb i r.from l, le-ltb r.to i h, ne_eqb (get_or ns (i - 1) 0) n d)
              (ap (walk r ns next n g) (sym e));
        }
