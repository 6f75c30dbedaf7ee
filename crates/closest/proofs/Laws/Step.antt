-- A step of the run: the links taken and those still to be taken make the same join, and something falls. Assumes nothing.
use Prim.Native.Nat.{ℕ, suc, ◌+◌, ◌-◌, ◌<◌, ◌≤◌}
use mathlib.Core.Path.{◌≡◌, refl, sym, ◌∙◌, ap}
use mathlib.Core.List.{List}
use native.Mathlib.Omega.{arith}
use lib.IntN.{ℤ}
use lib.ListN.{length, get_or, set, length-set}
use lib.Seq.{get_or-set_other}
use Rattle.matching.specs.declared.Master.TheVariants.{A as master_a, B as master_b}
use Rattle.matching.specs.Definitions.Links.{Link}
use Rattle.matching.specs.Definitions.Sizes.{half}
use Rattle.matching.specs.Definitions.Rows.{On, link_of, links_in}
use Rattle.matching.proofs.Laws.Sets.{link_more}
use Rattle.matching.proofs.Theorems.Mutual.{put_link, put_length, puts, puts_snoc}
use Rattle.closest.specs.declared.chain.Pick.{Pick}
use Rattle.closest.specs.Sizes.{chain_rows}
use Rattle.closest.specs.Rows.{Rows, Held, Faces, faces, rest, Sound}
use Rattle.closest.specs.declared.live.Lists.{Lists}
use Rattle.closest.specs.Blocks.{Kept, Fenced, Spent}
use Rattle.closest.specs.Order.{Table}
use Rattle.closest.specs.Chain.{Pushed, Mutually, Trimmed, Takes, amount, lose, link_row, Taken, whole, Ready, Room, Good, Stepped}
use Rattle.closest.proofs.Laws.Spans.{fit_again, held}
use Rattle.closest.proofs.Laws.Rest.{off_rows, lose_le, rest_take}
use Rattle.closest.proofs.Laws.Blocks.{fenced_again}
use Rattle.closest.proofs.Laws.Chain.{room, short, push, cut}

-- A's row loses the lesser of what the two rows have left, then B's row.
module _ (R : Rows) (left : List ℕ) (v : Sound R left) (p : Pick) (t : Takes R left p) (m : ℕ) (is : m ≡ amount left p) where
  pub take_first : (Sound R left × Held R p.a) × ((m ≤ get_or left p.a 0) × (1 ≤ get_or left p.a 0))
  take_first = ((v, held R v.spans master_a t.on_a), (omega arith, t.some_a))

module _ (R : Rows) (left : List ℕ) (v : Sound R left) (p : Pick) (t : Takes R left p) (m : ℕ) (is : m ≡ amount left p)
    (E : List (List ℕ)) (left₁ : List ℕ) (Q₁ : Lists) (E₁ : List (List ℕ)) (a : Spent R left E p.a m left₁ Q₁ E₁) where
  kept_b : get_or left₁ p.b 0 ≡ get_or left p.b 0
  kept_b = rw a.lefts (get_or-set_other left p.a p.b (get_or left p.a 0 - m) 0 (λ e. omega (arith, v.spans.below, v.spans.above, t.on_a, t.on_b)))

  pub take_second : (Sound R left₁ × Held R p.b) × (Kept R left₁ Q₁ E₁ × ((m ≤ get_or left₁ p.b 0) × (1 ≤ get_or left₁ p.b 0)))
  take_second = (
    (fit_again v left₁ (rw a.lefts (simp length-set v.capacities)), held R v.spans master_b t.on_b),
    (a.kept, (omega (arith, kept_b), omega (arith, kept_b, t.some_b))),
  )

  pub taken : (n : ℕ) (L : Table) (left₂ : List ℕ) (Q₂ : Lists) (E₂ : List (List ℕ)) (K : Table) → Spent R left₁ E₁ p.b m left₂ Q₂ E₂ → K ≡ set L n (link_row R p m) → Taken R left E p n L left₂ Q₂ E₂ K
  taken n L left₂ Q₂ E₂ K b e = record {
    lefts = b.lefts ∙ rw (kept_b, a.lefts, is);
    kept = b.kept;
    leasts = λ q. b.leasts q ∙ a.leasts q;
    links = rw is at e;
  }

module _ (R : Rows) (left : List ℕ) (Q : Lists) (E : List (List ℕ)) (X : List (List ℤ)) (chain : List ℕ) (L : Table) (depth n : ℕ) (g : Good R left Q E X chain L depth n) where
  abbrev r : Ready R left Q E X chain depth
  r = g.ready

  pub depth_low : depth < length chain
  depth_low = room R left r.sound chain depth r.path

  pub stepped_push : (w : ℕ) → Pushed R left chain depth w
      → Stepped R X left L depth n left Q E (set chain depth w) L (depth + 1) n
  stepped_push w p = record {
    good = record {
      ready = record { sound = r.sound; kept = r.kept; fenced = r.fenced; path = push R left r.sound chain depth r.path w p };
      room = g.room;
    };
    same = refl;
    falls = omega (arith, depth_low, r.path.room);
  }

  module _ (p : Pick) (q₀ : Mutually R left chain depth p.a p.b p.distance × (p.a < half)) where
    abbrev m : Mutually R left chain depth p.a p.b p.distance
    m = q₀.0

    pub deep : 2 ≤ depth
    deep = m.deep

    sides : On R.spans master_a p.a × On R.spans master_b p.b
    sides = go m.onto_j.faces
      where
        go : Faces R p.a p.b → On R.spans master_a p.a × On R.spans master_b p.b
        go (faces master_a h k) = (h, k)
        go (faces master_b h k) = absurd (omega (arith, q₀.1, r.sound.spans.above))

    abbrev new : List ℕ
    new = lose left p (amount left p)

    abbrev link : Link
    link = link_of (link_row R p (amount left p))

    first : rest R left ≡ put_link link (rest R new)
    first = rest_take R left r.sound p sides.0 sides.1 m.onto_j m.onto_i

    fewer : length (rest R left) ≡ suc (length (rest R new))
    fewer = ap length first ∙ put_length link (rest R new)

    pub has_row : n < length L
    has_row = omega (arith, fewer, g.room.most, g.room.size)

    pub may_take : Takes R left p
    may_take = record { on_a = sides.0; on_b = sides.1; some_a = m.onto_i.alive; some_b = m.onto_j.alive }

    lower : (k : ℕ) → get_or new k 0 ≤ get_or left k 0
    lower = lose_le R left r.sound p sides.0 sides.1 (amount left p)

    same_off : (k : ℕ) → (k ≡ p.a → ⊥) → (k ≡ p.b → ⊥) → get_or new k 0 ≡ get_or left k 0
    same_off = off_rows R left r.sound p sides.0 sides.1 (amount left p)

    -- The pair is taken.
    take : (d : ℕ) (O : Lists) (F : List (List ℕ)) (chain' : List ℕ) → Trimmed new chain depth chain' d → Kept R new O F → Fenced R F X
        → Stepped R X left L depth n new O F chain' (set L n (link_row R p (amount left p))) d (n + 1)
    unfolding whole
    take d O F chain' t k f = record {
      good = record {
        ready = record {
          sound = fit_again r.sound new (simp length-set r.sound.capacities);
          kept = k;
          fenced = f;
          path = cut R left r.sound chain depth r.path new chain' d deep lower (λ h l. same_off (get_or chain h 0) (m.not_i h l) (m.not_j h l)) t;
        };
        room = record { size = simp length-set g.room.size; most = omega (arith, fewer, g.room.most) };
      };
      same =
          ap (λ (K : List Link). puts K (rest R new)) (link_more L n (link_row R p (amount left p)) has_row)
          ∙ puts_snoc (links_in L n) link (rest R new)
          ∙ ap (puts (links_in L n)) (sym first);
      falls = omega (arith, fewer);
    }

    -- The same, with what was stored in hand.
    pub stepped_take : (left' : List ℕ) (O : Lists) (F : List (List ℕ)) (chain' : List ℕ) (L' : Table) (d : ℕ) → Taken R left E p n L left' O F L' → Trimmed left' chain depth chain' d
        → Stepped R X left L depth n left' O F chain' L' d (n + 1)
    stepped_take left' O F chain' L' d k t = rw (k.lefts, k.links) (take d O F chain' (rw k.lefts at t) (rw k.lefts at k.kept) (fenced_again R E F X k.leasts r.fenced))

-- A run begins with an empty chain and the links that are there.
pub good_start : (R : Rows) (left : List ℕ) (Q : Lists) (E : List (List ℕ)) (X : List (List ℤ)) (chain : List ℕ) (L : Table) (n : ℕ) → Sound R left → Kept R left Q E → Fenced R E X → length chain ≡ chain_rows → Room R left L n
    → Good R left Q E X chain L 0 n
good_start R left Q E X chain L n v k f e w = record {
  ready = record {
    sound = v;
    kept = k;
    fenced = f;
    path = short R left chain 0 (omega arith) e (λ h l. absurd (omega arith)) (λ h l. absurd (omega arith));
  };
  room = w;
}
