-- What a decision finds: the state's lists are those to look through, and the nearest of the top. Assumes nothing.
use Prim.Native.Nat.{ℕ, ◌+◌, ◌-◌, ◌/◌, ◌<◌, ◌≤◌}
use mathlib.Core.Path.{◌≡◌, sym, ◌∙◌, ap, subst}
use mathlib.Core.List.{List, []}
use native.Mathlib.Decide.{ℕ_discrete, dec_le}
use native.Mathlib.Omega.{arith}
use lib.IntN.{ℤ}
use borrow.Author.Tests.{eq-eqb, ne_eqb}
use Rattle.std.specs.Prelude.{Option, None, Some}
use Rattle.std.proofs.lemmas.Option.{none-some, same_Some}
use lib.ListN.{length, get_or}
use Rattle.matching.specs.declared.Master.{Master}
use Rattle.matching.specs.declared.Master.TheVariants.{A as master_a, B as master_b}
use Rattle.matching.specs.Definitions.Nodes.{other}
use Rattle.matching.specs.Definitions.Columns.{Inside}
use Rattle.matching.specs.Definitions.Sizes.{set_rows, set_blocks, block_rows, number_range}
use Rattle.matching.specs.Definitions.Rows.{range, On, across, upward, Placed, gap}
use Rattle.matching.proofs.Laws.Distance.{inside_reach, distance_fits}
use Rattle.matching.proofs.Laws.Earliest.{Leq}
use Rattle.closest.specs.declared.nearest.Near.{Near}
use Rattle.closest.specs.declared.chain.Move.{Move}
use Rattle.closest.specs.declared.chain.Move.TheVariants.{Push}
use Rattle.closest.specs.Sizes.{far_key}
use Rattle.closest.specs.Rows.{Rows, Held, far, Faces, faces, between, rest}
use Rattle.closest.specs.declared.live.Lists.{Lists}
use Rattle.closest.specs.Live.{number_at, row_at, spot_of, Holds, Live}
use Rattle.closest.specs.Blocks.{start, stop, Block, Aligned, end_of, Boxed, number_of}
use Rattle.closest.specs.Nearest.{seeded, met, apart, seen, Keyed, Guards, From, seed, block, Scanned, Partner, Chosen}
use Rattle.closest.specs.Chain.{Begun, Decided, Seeding, Seeded, none, under, Ready}
use Rattle.closest.proofs.Laws.Pairs.{rank, closer, leq_key, faces_swap, facing}
use Rattle.closest.proofs.Laws.Spans.{aligned, in_block, held}
use Rattle.closest.proofs.Laws.Rest.{rest_none}
use Rattle.closest.proofs.Laws.Chain.{room}

-- A place is as far as its row.
apart-far : (R : Rows) (Q : Lists) (t k : ℕ) → Holds R.ns R.at Q k → apart (get_or R.at t []) (get_or Q.points k []) ≡ far R t (row_at Q.listed k)
unfolding apart gap
apart-far R Q t k h = ap (apart (get_or R.at t [])) h.point

-- No key is the one above every key: no distance is that far.
apart_fits : (p q : List ℤ) → Inside (across p) (upward p) → Inside (across q) (upward q) → apart p q + 1 < number_range
unfolding apart
apart_fits p q a b = omega (arith, distance_fits (across p) (upward p) (across q) (upward q) (inside_reach (across p) (upward p) (across q) (upward q) a b))

-- A search that found none, and one that found something.
met_none : (r : Near) → met r ≡ None → r.key ≡ far_key
unfolding met
met_none r e = go (ℕ_discrete r.key far_key)
  where
    go : Dec (r.key ≡ far_key) → r.key ≡ far_key
    go (yes d) = d
    go (no d) = absurd (none-some r (rw (ne_eqb r.key far_key d) at (sym e)))

met_some : (r w : Near) → met r ≡ Some w → (r ≡ w) × (w.key ≡ far_key → ⊥)
unfolding met
met_some r w e = go (ℕ_discrete r.key far_key)
  where
    go : Dec (r.key ≡ far_key) → (r ≡ w) × (w.key ≡ far_key → ⊥)
    go (yes d) = absurd (none-some w (rw (eq-eqb r.key far_key d) at e))
    go (no d) = let q : r ≡ w = same_Some r w (rw (ne_eqb r.key far_key d) at e) in (q, rw q at d)

module _ (R : Rows) (left : List ℕ) (Q : Lists) (E : List (List ℕ)) (X : List (List ℤ)) (chain : List ℕ) (depth : ℕ) (r : Ready R left Q E X chain depth) where
  -- Place k lists a row of the master's that has something left.
  record Listed (m : Master) (k : ℕ) : Type 0 where
    low : k < set_rows
    holds : Holds R.ns R.at Q k
    on : On R.spans m (row_at Q.listed k)
    alive : 1 ≤ get_or left (row_at Q.listed k) 0

  listed : (m : Master) (b k : ℕ) → Block (range R.spans m) b → start b ≤ k → k < end_of E b → Listed m k
  listed m b k h a c =
      let l = r.kept.lists m b h in record {
        low = omega (arith, l.high, (aligned r.sound.spans m).room);
        holds = l.holds k a c;
        on = (omega (arith, (l.on k a c).0), omega (arith, (l.on k a c).1));
        alive = l.alive k a c;
      }

  -- A row that has something left has its place in its block's list.
  place : (m : Master) (q : ℕ) → On R.spans m q → 1 ≤ get_or left q 0
      → (start (q / block_rows) ≤ spot_of Q q) × (spot_of Q q < end_of E (q / block_rows)) × (row_at Q.listed (spot_of Q q) ≡ q)
  place m q h a = let b = in_block r.sound.spans m q h in (r.kept.lists m (q / block_rows) b.0).all q b.1 b.2 a

  row_listed : (m : Master) (q : ℕ) → On R.spans m q → 1 ≤ get_or left q 0 → Listed m (spot_of Q q)
  row_listed m q h a = let p = place m q h a in listed m (q / block_rows) (spot_of Q q) (in_block r.sound.spans m q h).0 p.0 p.1

  listed_placed : {m : Master} {k : ℕ} → Listed m k → Placed Q.points k
  listed_placed {m} {k} l = record {
    row = omega (arith, l.low, r.kept.sized.points);
    inside = rw l.holds.point (r.sound.inside m (row_at Q.listed k) l.on);
  }

  -- The blocks' lists are within their boxes.
  guards : (m : Master) → Guards Q.listed Q.points E X (range R.spans m)
  guards m b h = record {
    row = omega (arith, low, r.kept.ends);
    box = omega (arith, low, r.fenced.boxes);
    small = low;
    listing = record { low = l.low; room = omega (arith, l.high, room_m, r.kept.sized.listed); inside = λ k a c. listed_placed (listed m b k h a c) };
    boxed = record {
      around = record { inner = x.around.inner; holds = λ k a c. rw (l.holds k a c).point (x.around.holds (row_at Q.listed k) (l.on k a c).0 (l.on k a c).1) };
      least = λ k a c. rw (l.holds k a c).number (x.least (row_at Q.listed k) (l.on k a c).0 (l.on k a c).1);
    };
  }
    where
      room_m : (range R.spans m).to ≤ set_rows
      room_m = (aligned r.sound.spans m).room

      low : b < set_blocks
      low = omega (arith, room_m)

      l : Live R.ns R.at left Q (start b) (stop (range R.spans m) b) (end_of E b)
      l = r.kept.lists m b h

      x : Boxed (number_of R.ns) R.at E X b (start b) (stop (range R.spans m) b)
      x = r.fenced.boxed m b h

  pub may_look : (m : Master) → Aligned (range R.spans m) × Guards Q.listed Q.points E X (range R.spans m)
  may_look m = (aligned r.sound.spans m, guards m)

  -- A master with nothing left: no pair can be taken.
  none_left : (m : Master) → ((q : ℕ) → On R.spans m q → 1 ≤ get_or left q 0 → ⊥) → rest R left ≡ []
  none_left m f = go m (λ q h. spent q h (dec_le 1 (get_or left q 0)))
    where
      spent : (q : ℕ) → On R.spans m q → Dec (1 ≤ get_or left q 0) → get_or left q 0 ≡ 0
      spent q h (yes a) = absurd (f q h a)
      spent q h (no a) = omega arith

      go : (m : Master) → ((q : ℕ) → On R.spans m q → get_or left q 0 ≡ 0) → rest R left ≡ []
      go master_a g = rest_none R left r.sound (λ i j hi hj. omega (arith, g i hi))
      go master_b g = rest_none R left r.sound (λ i j hi hj. omega (arith, g j hj))

  -- How an empty chain begins.
  abbrev first : Option ℕ → Option Move
  first None = None
  first (Some w) = Some (Push w)

  pub begun : depth ≡ 0 → (m : Option ℕ) → Begun Q.listed E R.spans.a m → Decided R left chain depth (first m)
  begun z None f = none_left master_a (λ q h a. let p = place master_a q h a in omega (arith, p.0, p.1, f (q / block_rows) (in_block r.sound.spans master_a q h).0))
  begun z (Some w) o =
      let l = listed master_a o.number (start o.number) o.block (omega arith) o.some in
      rw o.is (record { held = held R r.sound.spans master_a l.on; alive = l.alive; next = λ h d. absurd (omega arith); new = λ h d. absurd (omega arith) })

  -- The top, and the row below it.
  module _ (deep : depth ≡ 0 → ⊥) where
    abbrev top : ℕ
    top = get_or chain (depth - 1) 0

    abbrev lower : ℕ
    lower = get_or chain (depth - 2) 0

    abbrev point : List ℤ
    point = get_or R.at top []

    top_held : Held R top
    top_held = r.path.held (depth - 1) (omega arith)

    pub top_placed : Placed R.at top
    top_placed = record { row = omega (arith, top_held.low, r.sound.positions); inside = r.sound.inside top_held.master top top_held.on }

    pub chain_room : depth < length chain
    chain_room = room R left r.sound chain depth r.path

    lower_faces : 2 ≤ depth → Faces R top lower
    lower_faces h = faces_swap R (subst (λ (k : ℕ). Faces R lower (get_or chain k 0)) (omega arith) (r.path.facing (depth - 2) (omega arith)))

    lower_listed : 2 ≤ depth → (o : Master) → On R.spans o top → Listed (other o) (spot_of Q lower)
    lower_listed h o g = row_listed (other o) lower (facing R r.sound.spans o (lower_faces h) g) (r.path.alive (depth - 2) (omega arith))

    pub seeding : Seeding chain Q depth
    seeding = record {
      room = omega (arith, chain_room);
      row = λ h. omega (arith, (r.path.held (depth - 2) (omega arith)).low, r.kept.sized.spots);
      place = λ h. omega (arith, (under_top h).low, r.kept.sized.listed);
      placed = λ h. listed_placed (under_top h);
    }
      where
        under_top : 2 ≤ depth → Listed (other top_held.master) (spot_of Q lower)
        under_top h = lower_listed h top_held.master top_held.on

    -- What the search found.
    module _ (n w : Near) (q : Seeded point chain Q depth n) where
      module _ (o : Master) (h : On R.spans o top) (v : Scanned point Q.listed Q.points E (range R.spans (other o)) n w) where
        Best : Near → Type 0
        Best u = Listed (other o) u.at × Keyed point Q.listed Q.points u.at u.key

        best : (w.key ≡ far_key → ⊥) → Best w
        unfolding Best
        best met = go v.came
          where
            begins : Seeded point chain Q depth n → (n.key ≡ far_key → ⊥) → Best n
            begins (none l e) f = absurd (f e)
            begins (under l e k) f = (rw e (lower_listed l o h), k)

            go : From point Q.listed Q.points E (range R.spans (other o)) n w → Best w
            go (seed e) = subst Best (sym e) (begins q (λ f. met (ap (λ (u : Near). u.key) e ∙ f)))
            go (block b h a c k) = (listed (other o) b w.at h a c, k)

        -- no row has a lesser key
        least : (k : ℕ) → On R.spans (other o) k → 1 ≤ get_or left k 0 → (w.key ≤ seen point Q.listed Q.points (spot_of Q k)) × (number_at Q.listed (spot_of Q k) < number_range)
        least k g a =
            let p = place (other o) k g a in
            let b = (in_block r.sound.spans (other o) k g).0 in
            let u = guards (other o) (k / block_rows) b in
            (v.least (k / block_rows) b u.small (spot_of Q k) p.0 p.1, (u.boxed.least (spot_of Q k) p.0 p.1).1)

        nearest : (w.key ≡ far_key → ⊥) → (k : ℕ) → On R.spans (other o) k → 1 ≤ get_or left k 0 → Leq (between R top (row_at Q.listed w.at)) (between R top k)
        unfolding Best
        nearest met k g a = closer R r.sound.spans o top (row_at Q.listed w.at) k h
            (subst (λ (i : ℕ). Leq (rank (far R top (row_at Q.listed w.at)) (get_or R.ns (row_at Q.listed w.at) 0)) (rank (far R top i) (get_or R.ns i 0))) (place (other o) k g a).2
            (leq_key _ _ _ _ (omega (arith, b.1.small, b.0.holds.number)) (omega (arith, c.1, l.holds.number))
            (omega (arith, c.0, b.1.is, b.0.holds.number, l.holds.number, apart-far R Q top w.at b.0.holds, apart-far R Q top (spot_of Q k) l.holds))))
          where
            b : Best w
            b = best met

            c : (w.key ≤ seen point Q.listed Q.points (spot_of Q k)) × (number_at Q.listed (spot_of Q k) < number_range)
            c = least k g a

            l : Listed (other o) (spot_of Q k)
            l = row_listed (other o) k g a

        chosen_on : (w.key ≡ far_key → ⊥) → Chosen R left top (row_at Q.listed w.at) (w.key / number_range)
        unfolding Best
        chosen_on met =
            let b = best met in record {
              faces = faces o h b.0.on;
              alive = b.0.alive;
              is_d = omega (arith, b.1.is, b.1.small) ∙ apart-far R Q top w.at b.0.holds;
              nearest = λ k f a. nearest met k (facing R r.sound.spans o f h) a;
            }

        stop_on : w.key ≡ far_key → rest R left ≡ []
        stop_on e = none_left (other o) (λ k g a. let c = least k g a in
            omega (arith, e, c, apart_fits point (get_or Q.points (spot_of Q k) []) top_placed.inside (listed_placed (row_listed (other o) k g a)).inside))

        low_on : (w.key ≡ far_key → ⊥) → w.at < set_rows
        unfolding Best
        low_on met = (best met).0.low

    -- The same of what is known of a partner.
    module _ (n g : Option Near) (q : Seeded point chain Q depth (seeded n)) (p : Partner R.at Q.listed Q.points E R.spans top n g) where
      abbrev o : Master
      o = top_held.master

      abbrev h : On R.spans o top
      h = top_held.on

      scanned : (o : Master) → On R.spans o top → Scanned point Q.listed Q.points E (range R.spans (other o)) (seeded n) p.best
      scanned master_a h = p.onto_b (omega (arith, r.sound.spans.below))
      scanned master_b h = p.onto_a (omega (arith, r.sound.spans.above))

      pub top_stop : g ≡ None → rest R left ≡ []
      top_stop e = stop_on (seeded n) p.best q o h (scanned o h) (met_none p.best (sym p.is ∙ e))

      module _ (w : Near) (e : g ≡ Some w) where
        is : (p.best ≡ w) × (w.key ≡ far_key → ⊥)
        is = met_some p.best w (sym p.is ∙ e)

        seen_from : Scanned point Q.listed Q.points E (range R.spans (other o)) (seeded n) w
        seen_from = rw is.0 at (scanned o h)

        pub top_chosen : Chosen R left top (row_at Q.listed w.at) (w.key / number_range)
        top_chosen = chosen_on (seeded n) w q o h seen_from is.1

        pub place_low : w.at < set_rows
        place_low = low_on (seeded n) w q o h seen_from is.1
