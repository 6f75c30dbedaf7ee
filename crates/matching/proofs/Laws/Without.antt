-- A drawing without one of its nodes: its links are those along the same pairs with nothing left at the node.
use Rattle.std.specs.Prelude.{ℕ, ◌+◌, ◌≤◌, ◌≡◌, refl, Bool, true, false, cond, List, [], ◌∷◌, ◌++◌, map, eqb, length}
use Rattle.std.proofs.Common.{sym, ◌∙◌, ap, arith, length-append, ne_eqb}
use Rattle.std.proofs.Math.Path.{fun_ext}
use Rattle.std.proofs.Math.Decide.{ℕ_discrete}
use Rattle.matching.specs.declared.Master.{Master}
use Rattle.matching.specs.declared.Master.TheVariants.{A as master_a, B as master_b}
use Rattle.matching.specs.Definitions.Nodes.{each, Node, Absent, of_sort, capacity_of}
use Rattle.matching.specs.Definitions.Pairs.{Pair, number_in, pair, pairs}
use Rattle.matching.specs.Definitions.Links.{Link}
use Rattle.matching.specs.Definitions.Join.{Left, capacities, less, lesser, taken, consider, earliest, steps, whole, join}
use Rattle.matching.proofs.Laws.Left.{less_hit, less_other, lesser_none, lesser-taken}
use Rattle.matching.proofs.Laws.Sorting.{sort, along, sorted_join}
use Rattle.matching.proofs.Laws.Steps.{steps_agree}
use Rattle.matching.proofs.Theorems.Join.{steps_enough, join_sorted, join_final}

-- The drawing seen from one master: X is its nodes, Y those of the other.
abbrev pub join_from : Master → List Node → List Node → List Link
join_from s X Y = each (join X Y) (join Y X) s

abbrev pub pairs_from : Master → List Node → List Node → List Pair
pairs_from s X Y = each (pairs X Y) (pairs Y X) s

abbrev pub capacities_from : Master → List Node → List Node → Left
capacities_from s X Y = each (capacities X Y) (capacities Y X) s

pub enough_from : (s : Master) (X Y : List Node) (n : ℕ) (c : Left) → length X + length Y ≤ n → steps whole n (pairs_from s X Y) c ≡ along (sort (pairs_from s X Y)) c
enough_from master_a X Y n c h = steps_enough X Y n c h
enough_from master_b X Y n c h = steps_enough Y X n c (omega arith)

final_from : (s : Master) (X Y : List Node) (n : ℕ) → length X + length Y ≤ n → steps whole n (pairs_from s X Y) (capacities_from s X Y) ≡ join_from s X Y
final_from master_a X Y n h = join_final X Y n h
final_from master_b X Y n h = join_final Y X n (omega arith)

pub sorted_from : (s : Master) (X Y : List Node) → join_from s X Y ≡ along (sort (pairs_from s X Y)) (capacities_from s X Y)
unfolding sorted_join
sorted_from master_a X Y = join_sorted X Y
sorted_from master_b X Y = join_sorted Y X

-- f with 0 at z.
unfoldable zeroed : ℕ → (ℕ → ℕ) → ℕ → ℕ
zeroed z f = less f z (f z)

zeroed_hit : (f : ℕ → ℕ) (z k : ℕ) → k ≡ z → zeroed z f k ≡ 0
unfolding zeroed
zeroed_hit f z k e = omega (arith, less_hit f z (f z) k e, ap f e)

zeroed_other : (f : ℕ → ℕ) (z k : ℕ) → (k ≡ z → ⊥) → zeroed z f k ≡ f k
unfolding zeroed
zeroed_other f z k e = less_other f z (f z) k e

zeroed-less : (f : ℕ → ℕ) (z n m : ℕ) → (n ≡ z → ⊥) → zeroed z (less f n m) ≡ less (zeroed z f) n m
zeroed-less f z n m d = fun_ext (λ k. go k (ℕ_discrete k z) (ℕ_discrete k n))
  where
    go : (k : ℕ) → Dec (k ≡ z) → Dec (k ≡ n) → zeroed z (less f n m) k ≡ less (zeroed z f) n m k
    go k (yes e) (yes g) = absurd (d (sym g ∙ e))
    go k (yes e) (no g) = omega (arith, zeroed_hit (less f n m) z k e, zeroed_hit f z k e, less_other (zeroed z f) n m k g)
    go k (no e) (yes g) = omega (arith, zeroed_other (less f n m) z k e, zeroed_other f z k e, less_hit (zeroed z f) n m k g, less_hit f n m k g)
    go k (no e) (no g) = omega (arith, zeroed_other (less f n m) z k e, zeroed_other f z k e, less_other (zeroed z f) n m k g, less_other f n m k g)

-- What is left, with nothing at the master's node z.
unfoldable pub void : Master → ℕ → Left → Left
unfolding zeroed
void master_a z c = each (zeroed z (c master_a)) (c master_b)
void master_b z c = each (c master_a) (zeroed z (c master_b))

pub void_named : (s : Master) (z : ℕ) (c : Left) (p : Pair) → number_in s p ≡ z → lesser (void s z c) p ≡ 0
unfolding void
void_named master_a z c p e = lesser_none (void master_a z c) p master_a (zeroed_hit (c master_a) z p.a e)
void_named master_b z c p e = lesser_none (void master_b z c) p master_b (zeroed_hit (c master_b) z p.b e)

pub void_other : (s : Master) (z : ℕ) (c : Left) (p : Pair) → (number_in s p ≡ z → ⊥) → lesser (void s z c) p ≡ lesser c p
unfolding void lesser
void_other master_a z c p e = omega (arith, zeroed_other (c master_a) z p.a e)
void_other master_b z c p e = omega (arith, zeroed_other (c master_b) z p.b e)

pub void-taken : (s : Master) (z : ℕ) (c : Left) (p : Pair) (m : ℕ) → (number_in s p ≡ z → ⊥) → void s z (taken c p m) ≡ taken (void s z c) p m
unfolding void taken
void-taken master_a z c p m e = fun_ext (λ t. at t)
  where
    at : (t : Master) → void master_a z (taken c p m) t ≡ taken (void master_a z c) p m t
    at master_a = zeroed-less (c master_a) z p.a m e
    at master_b = refl
void-taken master_b z c p m e = fun_ext (λ t. at t)
  where
    at : (t : Master) → void master_b z (taken c p m) t ≡ taken (void master_b z c) p m t
    at master_a = refl
    at master_b = zeroed-less (c master_b) z p.b m e

-- Pairs that can't be taken may be left out.
data Drop (P : Pair → Type 0) : List Pair → List Pair → Type 0 where
  empty : Drop P [] []
  keeps : (p : Pair) {L J : List Pair} → Drop P L J → Drop P (p ∷ L) (p ∷ J)
  drops : {p : Pair} {L J : List Pair} → P p → Drop P L J → Drop P (p ∷ L) J

earliest_drop : {P : Pair → Type 0} {L J : List Pair} → Drop P L J → (c : Left) → ((p : Pair) → P p → lesser c p ≡ 0) → earliest L c ≡ earliest J c
unfolding earliest consider
earliest_drop empty c h = refl
earliest_drop (keeps p d) c h = ap (consider p (lesser c p)) (earliest_drop d c h)
earliest_drop (drops {p = p} e d) c h = rw (h p e) (earliest_drop d c h)

steps_drop : {P : Pair → Type 0} {L J : List Pair} → Drop P L J → (n : ℕ) (c : Left) → ((p : Pair) → P p → lesser c p ≡ 0) → steps whole n L c ≡ steps whole n J c
steps_drop {P} {L} {J} d = steps_agree whole L J (λ c. (p : Pair) → P p → lesser c p ≡ 0) (λ c q m h p e. omega (arith, h p e, lesser-taken c q m p)) (earliest_drop d)

drop_refl : (P : Pair → Type 0) (L : List Pair) → Drop P L L
drop_refl P [] = empty
drop_refl P (p ∷ L) = keeps p (drop_refl P L)

drop_append : {P : Pair → Type 0} {L J K H : List Pair} → Drop P L J → Drop P K H → Drop P (L ++ K) (J ++ H)
drop_append empty e = e
drop_append (keeps p d) e = keeps p (drop_append d e)
drop_append (drops h d) e = drops h (drop_append d e)

-- The pairs of the node v, left out.
drop_a : (v : Node) (A₁ A₂ B : List Node) → Drop (λ p. p.a ≡ v.number) (pairs (A₁ ++ v ∷ A₂) B) (pairs (A₁ ++ A₂) B)
unfolding pairs pair
drop_a v [] A₂ B = drop_append (row (of_sort v.sort B)) (drop_refl (λ p. p.a ≡ v.number) (pairs A₂ B))
  where
    row : (C : List Node) → Drop (λ p. p.a ≡ v.number) (map (pair v) C) []
    row [] = empty
    row (w ∷ C) = drops refl (row C)
drop_a v (u ∷ A₁) A₂ B = drop_append (drop_refl (λ p. p.a ≡ v.number) (map (pair u) (of_sort u.sort B))) (drop_a v A₁ A₂ B)

drop_b : (v : Node) (A₁ A₂ B : List Node) → Drop (λ p. p.b ≡ v.number) (pairs B (A₁ ++ v ∷ A₂)) (pairs B (A₁ ++ A₂))
unfolding pairs pair of_sort
drop_b v A₁ A₂ [] = empty
drop_b v A₁ A₂ (w ∷ B) = drop_append (row A₁) (drop_b v A₁ A₂ B)
  where
    row : (C : List Node) → Drop (λ p. p.b ≡ v.number) (map (pair w) (of_sort w.sort (C ++ v ∷ A₂))) (map (pair w) (of_sort w.sort (C ++ A₂)))
    row [] = go (eqb v.sort w.sort) (drop_refl (λ p. p.b ≡ v.number) (map (pair w) R))
      where
        R : List Node
        R = of_sort w.sort A₂

        go : (t : Bool) → Drop (λ p. p.b ≡ v.number) (map (pair w) R) (map (pair w) R) → Drop (λ p. p.b ≡ v.number) (map (pair w) (cond t (v ∷ R) R)) (map (pair w) R)
        go true d = drops refl d
        go false d = d
    row (u ∷ C) = go (eqb u.sort w.sort) (row C)
      where
        L : List Node
        L = of_sort w.sort (C ++ v ∷ A₂)

        R : List Node
        R = of_sort w.sort (C ++ A₂)

        go : (t : Bool) → Drop (λ p. p.b ≡ v.number) (map (pair w) L) (map (pair w) R) → Drop (λ p. p.b ≡ v.number) (map (pair w) (cond t (u ∷ L) L)) (map (pair w) (cond t (u ∷ R) R))
        go true d = keeps (pair w u) d
        go false d = d

drop_from : (s : Master) (v : Node) (A₁ A₂ B : List Node) → Drop (λ p. number_in s p ≡ v.number) (pairs_from s (A₁ ++ v ∷ A₂) B) (pairs_from s (A₁ ++ A₂) B)
drop_from master_a v A₁ A₂ B = drop_a v A₁ A₂ B
drop_from master_b v A₁ A₂ B = drop_b v A₁ A₂ B

-- The capacities without a node.
pub capacity_none : (n : ℕ) (A : List Node) → Absent n A → capacity_of A n ≡ 0
unfolding capacity_of
capacity_none n [] h = refl
capacity_none n (u ∷ A) h = rw (ne_eqb u.number n (λ e. h.0 (sym e))) (capacity_none n A h.1)

pub capacity_other : (v : Node) (A₁ A₂ : List Node) (k : ℕ) → (k ≡ v.number → ⊥) → capacity_of (A₁ ++ v ∷ A₂) k ≡ capacity_of (A₁ ++ A₂) k
unfolding capacity_of
capacity_other v [] A₂ k h = rw (ne_eqb v.number k (λ e. h (sym e)))
capacity_other v (u ∷ A₁) A₂ k h = rw (capacity_other v A₁ A₂ k h)

capacity_zeroed : (v : Node) (A₁ A₂ : List Node) → Absent v.number (A₁ ++ A₂) → zeroed v.number (capacity_of (A₁ ++ v ∷ A₂)) ≡ capacity_of (A₁ ++ A₂)
capacity_zeroed v A₁ A₂ h = fun_ext (λ k. go k (ℕ_discrete k v.number))
  where
    go : (k : ℕ) → Dec (k ≡ v.number) → zeroed v.number (capacity_of (A₁ ++ v ∷ A₂)) k ≡ capacity_of (A₁ ++ A₂) k
    go k (yes e) = zeroed_hit (capacity_of (A₁ ++ v ∷ A₂)) v.number k e ∙ sym (rw e (capacity_none v.number (A₁ ++ A₂) h))
    go k (no e) = zeroed_other (capacity_of (A₁ ++ v ∷ A₂)) v.number k e ∙ capacity_other v A₁ A₂ k e

void_capacities : (s : Master) (v : Node) (A₁ A₂ B : List Node) → Absent v.number (A₁ ++ A₂)
    → void s v.number (capacities_from s (A₁ ++ v ∷ A₂) B) ≡ capacities_from s (A₁ ++ A₂) B
unfolding void capacities
void_capacities master_a v A₁ A₂ B h = ap (λ (f : ℕ → ℕ). each f (capacity_of B)) (capacity_zeroed v A₁ A₂ h)
void_capacities master_b v A₁ A₂ B h = ap (each (capacity_of B)) (capacity_zeroed v A₁ A₂ h)

module _ (s : Master) (v : Node) (A₁ A₂ B : List Node) (h : Absent v.number (A₁ ++ A₂)) where
  pub without_pairs : join_from s (A₁ ++ A₂) B ≡ along (sort (pairs_from s (A₁ ++ v ∷ A₂) B)) (capacities_from s (A₁ ++ A₂) B)
  without_pairs =
      sym (final_from s (A₁ ++ A₂) B n (omega (arith, length-append A₁ A₂, length-append A₁ (v ∷ A₂))))
      ∙ sym (steps_drop (drop_from s v A₁ A₂ B) n (capacities_from s (A₁ ++ A₂) B) (λ p e. rw (← void_capacities s v A₁ A₂ B h) (void_named s v.number (capacities_from s (A₁ ++ v ∷ A₂) B) p e)))
      ∙ enough_from s (A₁ ++ v ∷ A₂) B n (capacities_from s (A₁ ++ A₂) B) (omega arith)
    where
      n : ℕ
      n = length (A₁ ++ v ∷ A₂) + length B

  pub without : join_from s (A₁ ++ A₂) B ≡ along (sort (pairs_from s (A₁ ++ v ∷ A₂) B)) (void s v.number (capacities_from s (A₁ ++ v ∷ A₂) B))
  without = without_pairs ∙ ap (along (sort (pairs_from s (A₁ ++ v ∷ A₂) B))) (sym (void_capacities s v A₁ A₂ B h))
