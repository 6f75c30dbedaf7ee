-- The lists of rows that have something left. Assumes nothing.
use Prim.Native.Nat.{ℕ, ◌+◌, ◌<◌, ◌≤◌}
use mathlib.Core.Path.{◌≡◌, refl, sym, ◌∙◌, ap}
use mathlib.Core.List.{List, [], ◌∷◌}
use native.Mathlib.Decide.{ℕ_discrete}
use native.Mathlib.Omega.{arith}
use lib.IntN.{ℤ}
use lib.ListN.{get_or, length-set}
use lib.Seq.{get_or-set_same, get_or-set_other}
use Rattle.matching.specs.Definitions.Sizes.{set_rows}
use Rattle.closest.specs.declared.live.Lists.{Lists}
use Rattle.closest.specs.Live.{row_at, spot_of, Same, Elsewhere, Sized, entered, Holds, Live, Noted, passes, enters, Gathered}

pub same_refl : (Q : Lists) (k : ℕ) → Same Q Q k
same_refl Q k = record { listed = refl; point = refl; spot = refl }

pub same_trans : (Q P O : Lists) (k : ℕ) → Same Q P k → Same P O k → Same Q O k
same_trans Q P O k a b = record { listed = b.listed ∙ a.listed; point = b.point ∙ a.point; spot = b.spot ∙ a.spot }

module _ (ns : List ℕ) (at : List (List ℤ)) where
  -- Row r is put on the list at place w.
  module _ (Q : Lists) (w r : ℕ) (z : Sized ns at Q) (in_w : w < set_rows) (in_r : r < set_rows) where
    abbrev new : Lists
    new = entered ns at Q w r

    pub entered_size : Sized ns at new
    entered_size = record {
      numbers = z.numbers;
      positions = z.positions;
      listed = simp length-set z.listed;
      points = simp length-set z.points;
      spots = simp length-set z.spots;
    }

    here : get_or new.listed w [] ≡ get_or ns r 0 ∷ r ∷ []
    here = get_or-set_same Q.listed w (get_or ns r 0 ∷ r ∷ []) [] (omega (arith, z.listed))

    pub row_here : row_at new.listed w ≡ r
    row_here = ap (λ (x : List ℕ). get_or x 1 0) here

    pub spot_here : spot_of new r ≡ w
    spot_here = get_or-set_same Q.spot r w 0 (omega (arith, z.spots))

    listed_other : (k : ℕ) → (k ≡ w → ⊥) → get_or new.listed k [] ≡ get_or Q.listed k []
    listed_other k d = get_or-set_other Q.listed w k (get_or ns r 0 ∷ r ∷ []) [] d

    pub row_other : (k : ℕ) → (k ≡ w → ⊥) → row_at new.listed k ≡ row_at Q.listed k
    row_other k d = ap (λ (x : List ℕ). get_or x 1 0) (listed_other k d)

    pub spot_other : (q : ℕ) → (q ≡ r → ⊥) → spot_of new q ≡ spot_of Q q
    spot_other q d = get_or-set_other Q.spot r q w 0 d

    pub holds_here : Holds ns at new w
    holds_here = record {
      number = ap (λ (x : List ℕ). get_or x 0 0) here ∙ ap (λ (i : ℕ). get_or ns i 0) (sym row_here);
      point = get_or-set_same Q.points w (get_or at r []) [] (omega (arith, z.points)) ∙ ap (λ (i : ℕ). get_or at i []) (sym row_here);
      spot = ap (spot_of new) row_here ∙ spot_here;
    }

    pub holds_other : (k : ℕ) → (k ≡ w → ⊥) → (row_at Q.listed k ≡ r → ⊥) → Holds ns at Q k → Holds ns at new k
    holds_other k d e h = record {
      number = ap (λ (x : List ℕ). get_or x 0 0) (listed_other k d) ∙ h.number ∙ ap (λ (i : ℕ). get_or ns i 0) (sym (row_other k d));
      point = get_or-set_other Q.points w k (get_or at r []) [] d ∙ h.point ∙ ap (λ (i : ℕ). get_or at i []) (sym (row_other k d));
      spot = ap (spot_of new) (row_other k d) ∙ spot_other (row_at Q.listed k) e ∙ h.spot;
    }

    pub apart : (k : ℕ) → (k ≡ w → ⊥) → (k ≡ r → ⊥) → Same Q new k
    apart k d e = record { listed = listed_other k d; point = get_or-set_other Q.points w k (get_or at r []) [] d; spot = spot_other k e }

  -- A list whose places and rows are as they were.
  pub live_same : (left : List ℕ) (Q P : Lists) (first end e : ℕ) → ((k : ℕ) → first ≤ k → k < end → Same Q P k) → Live ns at left Q first end e → Live ns at left P first end e
  live_same left Q P first end e h l = record {
    low = l.low;
    high = l.high;
    holds = λ k a b. holds k a b;
    on = λ k a b. rw (row k a b) (l.on k a b);
    alive = λ k a b. rw (row k a b) (l.alive k a b);
    all = λ r a b v. all r a b (l.all r a b v);
  }
    where
      row : (k : ℕ) → first ≤ k → k < e → row_at P.listed k ≡ row_at Q.listed k
      row k a b = ap (λ (x : List ℕ). get_or x 1 0) (h k a (omega (arith, l.high))).listed

      holds : (k : ℕ) → first ≤ k → k < e → Holds ns at P k
      holds k a b =
          let s = h k a (omega (arith, l.high)) in
          let o = l.holds k a b in
          let q = l.on k a b in
          record {
            number = ap (λ (x : List ℕ). get_or x 0 0) s.listed ∙ o.number ∙ ap (λ (i : ℕ). get_or ns i 0) (sym (row k a b));
            point = s.point ∙ o.point ∙ ap (λ (i : ℕ). get_or at i []) (sym (row k a b));
            spot = ap (spot_of P) (row k a b) ∙ (h (row_at Q.listed k) q.0 q.1).spot ∙ o.spot;
          }

      all : (r : ℕ) → first ≤ r → r < end → (first ≤ spot_of Q r) × (spot_of Q r < e) × (row_at Q.listed (spot_of Q r) ≡ r) → (first ≤ spot_of P r) × (spot_of P r < e) × (row_at P.listed (spot_of P r) ≡ r)
      all r a b v = rw (h r a b).spot (v.0, v.1, row (spot_of Q r) v.0 v.1 ∙ v.2)

  -- A list whose rows have what they had.
  pub live_left : (left less : List ℕ) (Q : Lists) (first end e : ℕ) → ((q : ℕ) → first ≤ q → q < end → get_or less q 0 ≡ get_or left q 0) → Live ns at left Q first end e → Live ns at less Q first end e
  live_left left less Q first end e h l = record {
    low = l.low;
    high = l.high;
    holds = l.holds;
    on = l.on;
    alive = λ k a b. rw (h (row_at Q.listed k) (l.on k a b).0 (l.on k a b).1) (l.alive k a b);
    all = λ r a b v. l.all r a b (omega (arith, h r a b));
  }

  -- Rows are listed one by one: those before row k are done, and w is the next free place.
  module _ (left : List ℕ) (first end : ℕ) (Q₀ : Lists) where
    pub record Gathering (Q : Lists) (k w : ℕ) : Type 0 where
      pub low : first ≤ k
      pub high : k ≤ end
      pub sized : Sized ns at Q
      pub live : Live ns at left Q first k w
      pub apart : Elsewhere first end Q₀ Q

    pub gathering_start : first ≤ end → Sized ns at Q₀ → Gathering Q₀ first first
    gathering_start h z = record {
      low = omega arith;
      high = h;
      sized = z;
      live = record {
        low = omega arith;
        high = omega arith;
        holds = λ k a b. absurd (omega arith);
        on = λ k a b. absurd (omega arith);
        alive = λ k a b. absurd (omega arith);
        all = λ r a b v. absurd (omega arith);
      };
      apart = λ k d. same_refl Q₀ k;
    }

    module _ (Q : Lists) (k w : ℕ) (g : Gathering Q k w) (less : k < end) where
      abbrev l : Live ns at left Q first k w
      l = g.live

      gathering_pass : get_or left k 0 ≡ 0 → Gathering Q (k + 1) w
      gathering_pass e = record {
        low = omega (arith, g.low);
        high = omega arith;
        sized = g.sized;
        live = record {
          low = l.low;
          high = omega (arith, l.high);
          holds = l.holds;
          on = λ q a b. ((l.on q a b).0, omega (arith, (l.on q a b).1));
          alive = l.alive;
          all = λ r a b v. all r a b v (ℕ_discrete r k);
        };
        apart = g.apart;
      }
        where
          all : (r : ℕ) → first ≤ r → r < k + 1 → 1 ≤ get_or left r 0 → Dec (r ≡ k) → (first ≤ spot_of Q r) × (spot_of Q r < w) × (row_at Q.listed (spot_of Q r) ≡ r)
          all r a b v (yes d) = absurd (omega (arith, e, ap (λ (i : ℕ). get_or left i 0) d))
          all r a b v (no d) = l.all r a (omega arith) v

      gathering_enter : end ≤ set_rows → (get_or left k 0 ≡ 0 → ⊥) → Gathering (entered ns at Q w k) (k + 1) (w + 1)
      gathering_enter room e = record {
        low = omega (arith, g.low);
        high = omega arith;
        sized = entered_size Q w k z in_w in_k;
        live = record {
          low = omega (arith, l.low);
          high = omega (arith, l.high);
          holds = λ q a b. holds q a b (ℕ_discrete q w);
          on = λ q a b. on q a b (ℕ_discrete q w);
          alive = λ q a b. alive q a b (ℕ_discrete q w);
          all = λ r a b v. all r a b v (ℕ_discrete r k);
        };
        apart = λ q d. same_trans Q₀ Q P q (g.apart q d) (apart Q w k z in_w in_k q (λ f. d (omega (arith, l.low)) (omega (arith, l.high))) (λ f. d (omega (arith, g.low)) (omega arith)));
      }
        where
          z : Sized ns at Q
          z = g.sized

          P : Lists
          P = entered ns at Q w k

          in_w : w < set_rows
          in_w = omega (arith, l.high)

          in_k : k < set_rows
          in_k = omega arith

          holds : (q : ℕ) → first ≤ q → q < w + 1 → Dec (q ≡ w) → Holds ns at P q
          holds q a b (yes d) = rw d (holds_here Q w k z in_w in_k)
          holds q a b (no d) = holds_other Q w k z in_w in_k q d (λ f. omega (arith, (l.on q a (omega arith)).1)) (l.holds q a (omega arith))

          on : (q : ℕ) → first ≤ q → q < w + 1 → Dec (q ≡ w) → (first ≤ row_at P.listed q) × (row_at P.listed q < k + 1)
          on q a b (yes d) = rw (d, row_here Q w k z in_w in_k) (g.low, omega arith)
          on q a b (no d) = rw (row_other Q w k z in_w in_k q d) ((l.on q a (omega arith)).0, omega (arith, (l.on q a (omega arith)).1))

          alive : (q : ℕ) → first ≤ q → q < w + 1 → Dec (q ≡ w) → 1 ≤ get_or left (row_at P.listed q) 0
          alive q a b (yes d) = rw (d, row_here Q w k z in_w in_k) (omega arith)
          alive q a b (no d) = rw (row_other Q w k z in_w in_k q d) (l.alive q a (omega arith))

          all : (r : ℕ) → first ≤ r → r < k + 1 → 1 ≤ get_or left r 0 → Dec (r ≡ k) → (first ≤ spot_of P r) × (spot_of P r < w + 1) × (row_at P.listed (spot_of P r) ≡ r)
          all r a b v (yes d) = rw (d, spot_here Q w k z in_w in_k) (l.low, omega arith, row_here Q w k z in_w in_k)
          all r a b v (no d) =
              let o = l.all r a (omega arith) v in
              rw (spot_other Q w k z in_w in_k r d) (o.0, omega (arith, o.1), row_other Q w k z in_w in_k (spot_of Q r) (λ f. omega (arith, o.1)) ∙ o.2)

      pub gathering_on : end ≤ set_rows → (O : Lists) (e : ℕ) → Noted ns at left k w Q O e → Gathering O (k + 1) e
      gathering_on room O e (passes d f h) = rw (f, h) (gathering_pass d)
      gathering_on room O e (enters d f h) = rw (f, h) (gathering_enter room d)

    pub gathering_end : (Q : Lists) (k w : ℕ) → Gathering Q k w → end ≤ k → Gathered ns at left first end Q₀ Q w
    gathering_end Q k w g h =
        let e : k ≡ end = omega (arith, g.high) in
        record { sized = g.sized; live = rw e at g.live; apart = g.apart }
