-- The pair of two rows that face each other, seen from either. Assumes nothing.
use Prim.Native.Nat.{ℕ, ◌<◌, ◌≤◌}
use mathlib.Core.Path.{◌≡◌, refl, sym, ◌∙◌, ap, ap₂}
use mathlib.Core.List.{List}
use native.Mathlib.Decide.{dec_lt}
use native.Mathlib.Omega.{arith}
use lib.ListN.{get_or}
use borrow.Author.Tests.{lt-ltb, le-ltb}
use Rattle.matching.specs.declared.Master.{Master}
use Rattle.matching.specs.declared.Master.TheVariants.{A as master_a, B as master_b}
use Rattle.matching.specs.Definitions.Nodes.{each, other}
use Rattle.matching.specs.Definitions.Pairs.{Pair, Before, nearer, lower_a, lower_b}
use Rattle.matching.specs.Definitions.Sizes.{half, number_range}
use Rattle.matching.specs.Definitions.Rows.{On, Spanned, key}
use Rattle.matching.proofs.Laws.Sets.{gap_swap}
use Rattle.matching.proofs.Laws.Order.{before_trans, before_irrefl}
use Rattle.matching.proofs.Laws.Earliest.{Leq, strictly, equally}
use Rattle.closest.specs.Rows.{Rows, far, Faces, faces, row_pair, between, Sound}

-- Distances are the same from either end.
pub far_swap : (R : Rows) (i k : ℕ) → far R i k ≡ far R k i
far_swap R i k = gap_swap R.at i R.at k

-- Distance, then number: the pair order of two pairs that share a node.
abbrev pub rank : ℕ → ℕ → Pair
rank d n = record { distance = d; a = n; b = 0 }

shared : (s : Master) (d n e m z : ℕ) → Leq (rank d n) (rank e m)
    → Leq (each (record { distance = d; a = z; b = n }) (record { distance = d; a = n; b = z }) s) (each (record { distance = e; a = z; b = m }) (record { distance = e; a = m; b = z }) s)
shared master_a d n e m z (strictly (nearer h)) = strictly (nearer h)
shared master_a d n e m z (strictly (lower_a f h)) = strictly (lower_b f refl h)
shared master_b d n e m z (strictly (nearer h)) = strictly (nearer h)
shared master_b d n e m z (strictly (lower_a f h)) = strictly (lower_a f h)
shared s d n e m z (strictly (lower_b f g h)) = absurd (omega arith)
shared master_a d n e m z (equally f) = equally (ap (λ (q : Pair). record { distance = q.distance; a = z; b = q.a }) f)
shared master_b d n e m z (equally f) = equally (ap (λ (q : Pair). record { distance = q.distance; a = q.a; b = z }) f)

-- Keys are in the order of distances, then of numbers.
pub leq_key : (d n e m : ℕ) → n < number_range → m < number_range → key d n ≤ key e m → Leq (rank d n) (rank e m)
leq_key d n e m a b h = go (dec_lt d e) (dec_lt n m)
  where
    go : Dec (d < e) → Dec (n < m) → Leq (rank d n) (rank e m)
    go (yes l) g = strictly (nearer l)
    go (no l) (yes g) = strictly (lower_a (omega arith) g)
    go (no l) (no g) = equally (ap₂ rank (omega arith) (omega arith))

pub not_before : {p q : Pair} → Leq p q → Before q p → ⊥
not_before (strictly h) b = before_irrefl (before_trans h b)
not_before (equally e) b = before_irrefl (rw e at b)

module _ (R : Rows) (v : Spanned R.spans) where
  -- A's rows stand below half, B's from there on.
  pub between_on : (m : Master) (t k : ℕ) → On R.spans m t → between R t k ≡ each (row_pair R t k) (row_pair R k t) m
  unfolding between
  between_on master_a t k h = rw (lt-ltb t half (omega (arith, v.below)))
  between_on master_b t k h = rw (le-ltb t half (omega (arith, v.above)))

  pub faces_self : {t : ℕ} → Faces R t t → ⊥
  faces_self (faces master_a h g) = omega (arith, v.below, v.above)
  faces_self (faces master_b h g) = omega (arith, v.below, v.above)

  pub between_swap : {t k : ℕ} → Faces R t k → between R t k ≡ between R k t
  between_swap {t} {k} (faces master_a h g) = between_on master_a t k h ∙ sym (between_on master_b k t g)
  between_swap {t} {k} (faces master_b h g) = between_on master_b t k h ∙ sym (between_on master_a k t g)

  -- A row that comes first by distance and number makes the earlier pair.
  pub closer : (m : Master) (t w k : ℕ) → On R.spans m t → Leq (rank (far R t w) (get_or R.ns w 0)) (rank (far R t k) (get_or R.ns k 0)) → Leq (between R t w) (between R t k)
  closer master_a t w k h l = rw (between_on master_a t w h, between_on master_a t k h) (shared master_a _ _ _ _ _ l)
  closer master_b t w k h l = rw (between_on master_b t w h, between_on master_b t k h, far_swap R w t, far_swap R k t) (shared master_b _ _ _ _ _ l)

pub faces_swap : (R : Rows) {t k : ℕ} → Faces R t k → Faces R k t
faces_swap R (faces master_a h g) = faces master_b g h
faces_swap R (faces master_b h g) = faces master_a g h

-- Where the pairs are the same, so are the rows.
pub same_row : (R : Rows) {left : List ℕ} → Sound R left → (t w u : ℕ) → Faces R t w → Faces R t u → between R t w ≡ between R t u → w ≡ u
same_row R v t w u (faces master_a h g) (faces master_a i k) e =
    v.distinct master_b w u g k (ap (λ (p : Pair). p.b) (sym (between_on R v.spans master_a t w h) ∙ e ∙ between_on R v.spans master_a t u h))
same_row R v t w u (faces master_b h g) (faces master_b i k) e =
    v.distinct master_a w u g k (ap (λ (p : Pair). p.a) (sym (between_on R v.spans master_b t w h) ∙ e ∙ between_on R v.spans master_b t u h))
same_row R v t w u (faces master_a h g) (faces master_b i k) e = absurd (omega (arith, v.spans.below, v.spans.above))
same_row R v t w u (faces master_b h g) (faces master_a i k) e = absurd (omega (arith, v.spans.below, v.spans.above))

-- The row that faces one of a master's is the other master's.
pub facing : (R : Rows) → Spanned R.spans → {t k : ℕ} (o : Master) → Faces R t k → On R.spans o t → On R.spans (other o) k
facing R v master_a (faces master_a a b) g = b
facing R v master_b (faces master_b a b) g = b
facing R v master_a (faces master_b a b) g = absurd (omega (arith, v.below, v.above))
facing R v master_b (faces master_a a b) g = absurd (omega (arith, v.below, v.above))
