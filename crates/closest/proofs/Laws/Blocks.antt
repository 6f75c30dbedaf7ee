-- Blocks: lists made and boxes put up block by block; a row that loses something. Assumes nothing.
use Prim.Native.Nat.{ℕ, ◌+◌, ◌/◌, ◌<◌, ◌≤◌}
use mathlib.Core.Path.{◌≡◌, refl, ◌∙◌, ap}
use mathlib.Core.List.{List, [], ◌∷◌}
use native.Mathlib.Decide.{ℕ_discrete}
use native.Mathlib.Omega.{arith}
use lib.IntN.{ℤ}
use lib.ListN.{length, get_or, set, length-set}
use lib.Seq.{get_or-set_same, get_or-set_other}
use Rattle.matching.specs.declared.Range.{Range}
use Rattle.matching.specs.declared.Master.{Master}
use Rattle.matching.specs.declared.Master.TheVariants.{A as master_a, B as master_b}
use Rattle.matching.specs.Definitions.Sizes.{set_rows, set_blocks, block_rows}
use Rattle.matching.specs.Definitions.Rows.{range}
use Rattle.boxes.specs.Boxes.{Around}
use Rattle.closest.specs.Rows.{Rows, Held, Sound}
use Rattle.closest.specs.declared.live.Lists.{Lists}
use Rattle.closest.specs.Live.{Elsewhere, Sized, May, Live, Gathered, Refreshed}
use Rattle.closest.specs.Blocks.{start, stop, Block, end_of, least_of, Least, Boxed, number_of, Laying, Laid, LaidAll, Kept, Fenced}
use Rattle.closest.proofs.Laws.Live.{same_refl, same_trans, live_same, live_left}
use Rattle.closest.proofs.Laws.Refresh.{may_refresh, refreshed}
use Rattle.closest.proofs.Laws.Spans.{aligned, in_block, one_master}

-- A block's row and box that are as they were.
boxed_same : (number : ℕ → ℕ) (at : List (List ℤ)) (E F : List (List ℕ)) (X Y : List (List ℤ)) (b first end : ℕ) → least_of F b ≡ least_of E b → get_or Y b [] ≡ get_or X b []
    → Boxed number at E X b first end → Boxed number at F Y b first end
boxed_same number at E F X Y b first end e f x = record { around = rw f x.around; least = λ k a c. rw e (x.least k a c) }

-- Block n is laid out after those ahead of it.
module _ (ns : List ℕ) (at : List (List ℤ)) (left : List ℕ) (r : Range) (Q₀ : Lists) (E₀ : List (List ℕ)) (X₀ : List (List ℤ)) (u : Laying ns at left r Q₀ E₀ X₀) where
  pub laid_start : Laid ns at left r (r.from / block_rows) Q₀ E₀ X₀ Q₀ E₀ X₀
  laid_start = record {
    sized = u.sized;
    ends = u.ends;
    boxes = u.boxes;
    lists = λ b h l. absurd (omega (arith, u.range.begins));
    boxed = λ b h l. absurd (omega (arith, u.range.begins));
    apart = λ k d. same_refl Q₀ k;
    aside = λ b d. (refl, refl);
  }

  module _ (n : ℕ) (Q : Lists) (E : List (List ℕ)) (X : List (List ℤ)) (c : Laid ns at left r n Q₀ E₀ X₀ Q E X) (at_n : Block r n) where
    pub laid_on : (P : Lists) (e m : ℕ) (x : List ℤ) → Gathered ns at left (start n) (stop r n) Q P e → Least (number_of ns) (start n) (stop r n) m → Around at (start n) (stop r n) x
        → Laid ns at left r (n + 1) Q₀ E₀ X₀ P (set E n (e ∷ m ∷ [])) (set X n x)
    laid_on P e m x g lm ar = record {
      sized = g.sized;
      ends = simp length-set c.ends;
      boxes = simp length-set c.boxes;
      lists = λ b h l. lists b h (ℕ_discrete b n) l;
      boxed = λ b h l. boxed b h (ℕ_discrete b n) l;
      apart = λ k d. same_trans Q₀ Q P k (c.apart k d) (g.apart k (λ a b. d (omega arith) (omega arith)));
      aside = λ b d. (other_row b (λ q. d (rw q at_n)) ∙ (c.aside b d).0, other_box b (λ q. d (rw q at_n)) ∙ (c.aside b d).1);
    }
      where
        F : List (List ℕ)
        F = set E n (e ∷ m ∷ [])

        Y : List (List ℤ)
        Y = set X n x

        low : n < set_blocks
        low = omega (arith, u.range.room)

        this_row : get_or (set E n (e ∷ m ∷ [])) n [] ≡ e ∷ m ∷ []
        this_row = get_or-set_same E n (e ∷ m ∷ []) [] (omega (arith, low, c.ends))

        other_row : (b : ℕ) → (b ≡ n → ⊥) → get_or (set E n (e ∷ m ∷ [])) b [] ≡ get_or E b []
        other_row b d = get_or-set_other E n b (e ∷ m ∷ []) [] d

        this_box : get_or (set X n x) n [] ≡ x
        this_box = get_or-set_same X n x [] (omega (arith, low, c.boxes))

        other_box : (b : ℕ) → (b ≡ n → ⊥) → get_or (set X n x) b [] ≡ get_or X b []
        other_box b d = get_or-set_other X n b x [] d

        lists : (b : ℕ) → Block r b → Dec (b ≡ n) → b < n + 1 → Live ns at left P (start b) (stop r b) (end_of (set E n (e ∷ m ∷ [])) b)
        lists b h (yes d) l = rw (d, this_row) g.live
        lists b h (no d) l =
            rw (other_row b d)
            (live_same ns at left Q P (start b) (stop r b) (end_of E b) (λ k a o. g.apart k (λ p q. d (omega arith))) (c.lists b h (omega arith)))

        boxed : (b : ℕ) → Block r b → Dec (b ≡ n) → b < n + 1 → Boxed (number_of ns) at (set E n (e ∷ m ∷ [])) (set X n x) b (start b) (stop r b)
        boxed b h (yes d) l = rw d (record { around = rw this_box ar; least = λ k a o. rw this_row (lm k a o) })
        boxed b h (no d) l =
            boxed_same (number_of ns) at E (set E n (e ∷ m ∷ [])) X (set X n x) b (start b) (stop r b) (ap (λ (y : List ℕ). get_or y 1 0) (other_row b d)) (other_box b d) (c.boxed b h (omega arith))

  pub laid_end : (n : ℕ) (Q : Lists) (E : List (List ℕ)) (X : List (List ℤ)) → Laid ns at left r n Q₀ E₀ X₀ Q E X → r.to ≤ start n → LaidAll ns at left r Q₀ E₀ X₀ Q E X
  laid_end n Q E X c done = record {
    sized = c.sized;
    ends = c.ends;
    boxes = c.boxes;
    lists = λ b h l. c.lists b h (omega arith);
    boxed = λ b h l. c.boxed b h (omega arith);
    apart = c.apart;
    aside = c.aside;
  }

module _ (R : Rows) (left : List ℕ) (v : Sound R left) where
  -- A master's rows may be laid out,
  pub may_lay : (m : Master) (Q : Lists) (E : List (List ℕ)) (X : List (List ℤ)) → Sized R.ns R.at Q → length E ≡ set_blocks → length X ≡ set_blocks
      → Laying R.ns R.at left (range R.spans m) Q E X
  may_lay m Q E X z e x = record { sized = z; lefts = v.capacities; ends = e; boxes = x; range = aligned v.spans m; inside = λ k a b. v.inside m k (a, b) }

  -- A's, then B's: all blocks are listed,
  module _ (Q P O : Lists) (E F G : List (List ℕ)) (X Y Z : List (List ℤ)) (a : LaidAll R.ns R.at left R.spans.a Q E X P F Y) (b : LaidAll R.ns R.at left R.spans.b P F Y O G Z) where
    -- a block of A's is as it was
    aside : (i : ℕ) → Block R.spans.a i → (get_or G i [] ≡ get_or F i []) × (get_or Z i [] ≡ get_or Y i [])
    aside i h = b.aside i (λ g. omega (arith, v.spans.below, v.spans.above))

    low : (m : Master) (i : ℕ) → Block (range R.spans m) i → i < set_blocks
    low m i h = omega (arith, (aligned v.spans m).room)

    pub kept_start : Kept R left O G
    kept_start = record { sized = b.sized; ends = b.ends; lists = lists }
      where
        lists : (m : Master) (i : ℕ) → Block (range R.spans m) i → Live R.ns R.at left O (start i) (stop (range R.spans m) i) (end_of G i)
        lists master_a i h =
            rw (aside i h).0
            (live_same R.ns R.at left P O (start i) (stop R.spans.a i) (end_of F i) (λ k p q. b.apart k (λ f g. omega (arith, v.spans.below, v.spans.above))) (a.lists i h (low master_a i h)))
        lists master_b i h = b.lists i h (low master_b i h)

    -- and have their boxes.
    pub fenced_start : Fenced R G Z
    fenced_start = record { boxes = b.boxes; boxed = boxed }
      where
        boxed : (m : Master) (i : ℕ) → Block (range R.spans m) i → Boxed (number_of R.ns) R.at G Z i (start i) (stop (range R.spans m) i)
        boxed master_a i h =
            boxed_same (number_of R.ns) R.at F G Y Z i (start i) (stop R.spans.a i) (ap (λ (y : List ℕ). get_or y 1 0) (aside i h).0) (aside i h).1 (a.boxed i h (low master_a i h))
        boxed master_b i h = b.boxed i h (low master_b i h)

  -- The lists after a row lost something.
  module _ (Q : Lists) (E : List (List ℕ)) (k : Kept R left Q E) (row : ℕ) (held : Held R row) (was : 1 ≤ get_or left row 0) (x : ℕ) (fewer : x ≤ get_or left row 0) where
    abbrev m : Master
    m = held.master

    abbrev b : ℕ
    b = row / block_rows

    abbrev less : List ℕ
    less = set left row x

    in_b : Block (range R.spans m) b × (start b ≤ row) × (row < stop (range R.spans m) b)
    in_b = in_block v.spans m row held.on

    room : (range R.spans m).to ≤ set_rows
    room = (aligned v.spans m).room

    off : (q : ℕ) → (q ≡ row → ⊥) → get_or less q 0 ≡ get_or left q 0
    off q d = get_or-set_other left row q x 0 d

    lower : (q : ℕ) → get_or less q 0 ≤ get_or left q 0
    lower q = go (ℕ_discrete q row)
      where
        go : Dec (q ≡ row) → get_or less q 0 ≤ get_or left q 0
        go (yes d) = rw d (omega (arith, get_or-set_same left row x 0 (omega (arith, v.capacities))))
        go (no d) = omega (arith, off q d)

    live : Live R.ns R.at left Q (start b) (stop (range R.spans m) b) (end_of E b)
    live = k.lists m b in_b.0

    pub spend_low : b < set_blocks
    spend_low = omega arith

    pub spend_may : May Q row (end_of E b)
    spend_may = may_refresh R.ns R.at left less Q (start b) (stop (range R.spans m) b) (end_of E b) row k.sized live (omega (arith, room)) in_b.1 in_b.2 was lower (λ q a c d. off q d)

    pub spend_kept : (O : Lists) (e z : ℕ) → Refreshed R.ns R.at less row (end_of E b) Q O e → Kept R less O (set E b (e ∷ z ∷ []))
    spend_kept O e z f = record { sized = r.2; ends = simp length-set k.ends; lists = λ o j h. lists o j h (ℕ_discrete j b) }
      where
        r : Live R.ns R.at less O (start b) (stop (range R.spans m) b) e × Elsewhere (start b) (stop (range R.spans m) b) Q O × Sized R.ns R.at O
        r = refreshed R.ns R.at left less Q (start b) (stop (range R.spans m) b) (end_of E b) row k.sized live (omega (arith, room)) in_b.1 in_b.2 was lower (λ q a c d. off q d) O e f

        lists : (o : Master) (j : ℕ) → Block (range R.spans o) j → Dec (j ≡ b) → Live R.ns R.at less O (start j) (stop (range R.spans o) j) (end_of (set E b (e ∷ z ∷ [])) j)
        lists o j h (yes d) =
            rw (d, get_or-set_same E b (e ∷ z ∷ []) [] (omega (arith, spend_low, k.ends)), one_master v.spans o m b (rw d at h) in_b.0) r.0
        lists o j h (no d) =
            rw (get_or-set_other E b j (e ∷ z ∷ []) [] d)
            (live_same R.ns R.at less Q O (start j) (stop (range R.spans o) j) (end_of E j) (λ q a c. r.1 q (λ f g. d (omega arith)))
            (live_left R.ns R.at left less Q (start j) (stop (range R.spans o) j) (end_of E j) (λ q a c. off q (λ g. d (omega arith))) (k.lists o j h)))

-- A block's least number is stored again with its list's new end.
pub least_again : (E : List (List ℕ)) (b e : ℕ) → b < length E → (q : ℕ) → least_of (set E b (e ∷ least_of E b ∷ [])) q ≡ least_of E q
least_again E b e h q = go (ℕ_discrete q b)
  where
    go : Dec (q ≡ b) → least_of (set E b (e ∷ least_of E b ∷ [])) q ≡ least_of E q
    go (yes d) = rw d (ap (λ (y : List ℕ). get_or y 1 0) (get_or-set_same E b (e ∷ least_of E b ∷ []) [] h))
    go (no d) = ap (λ (y : List ℕ). get_or y 1 0) (get_or-set_other E b q (e ∷ least_of E b ∷ []) [] d)

-- Boxes stay where the least numbers do.
pub fenced_again : (R : Rows) (E F : List (List ℕ)) (X : List (List ℤ)) → ((b : ℕ) → least_of F b ≡ least_of E b) → Fenced R E X → Fenced R F X
fenced_again R E F X e f = record { boxes = f.boxes; boxed = λ m b h. boxed_same (number_of R.ns) R.at E F X X b (start b) (stop (range R.spans m) b) (e b) refl (f.boxed m b h) }
