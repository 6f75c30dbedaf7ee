-- Locality: an edit of one node changes no link ahead of the first, old or new, that names the node.
use Prim.Native.Nat.{ℕ, zero, suc, ◌≤◌}
use Rattle.std.specs.Prelude.{true, ◌≡◌, refl, ℤ, length, take}
use Rattle.std.proofs.Common.{◌∙◌, ap, subst}
use mathlib.Core.List.{List, [], ◌∷◌, ◌++◌, append-nil}
use Rattle.std.proofs.Math.Decide.{ℕ_discrete}
use Rattle.matching.specs.Definitions.Lists.{All}
use Rattle.matching.specs.declared.Master.{Master}
use Rattle.matching.specs.Definitions.Nodes.{Node, Absent, Unique, has}
use Rattle.matching.specs.Definitions.Pairs.{Pair, number_in}
use Rattle.matching.specs.Definitions.Links.{Link, pair_of, common}
use Rattle.matching.specs.Definitions.Join.{Left, lesser, taken}
use Rattle.matching.specs.Definitions.Edits.{arrive, depart, amend, moved, resized}
use Rattle.matching.proofs.Laws.Left.{taken_zero}
use Rattle.matching.proofs.Laws.Sorting.{sort, keep, along}
use Rattle.matching.proofs.Laws.Common.{common_most}
use Rattle.matching.proofs.Laws.Split.{Split, split, absent_of_unique}
use Rattle.matching.proofs.Laws.Without.{join_from, pairs_from, capacities_from, sorted_from, void, void_named, void_other, void-taken, without}

-- The link names the master's node n.
abbrev pub Names : Master → ℕ → Link → Type 0
Names s n l = number_in s (pair_of l) ≡ n

-- Two lists of links, gone down together: the rows are the same until a row of one of them is a P.
pub data Local (P : Link → Type 0) : List Link → List Link → Type 0 where
  end : Local P [] []
  old : {l : Link} {K J : List Link} → P l → Local P (l ∷ K) J
  new : {l : Link} {K J : List Link} → P l → Local P K (l ∷ J)
  next : {l : Link} {K J : List Link} → Local P K J → Local P (l ∷ K) (l ∷ J)

-- As long as no row of either list is a P, the rows are the same;
pub local_take : {P : Link → Type 0} {K J : List Link} → Local P K J → (n : ℕ)
    → All (λ l. ¬ P l) (take n K) → All (λ l. ¬ P l) (take n J) → take n K ≡ take n J
local_take end n h g = refl
local_take (old e) zero h g = refl
local_take (old e) (suc n) h g = absurd (h.0 e)
local_take (new e) zero h g = refl
local_take (new e) (suc n) h g = absurd (g.0 e)
local_take (next d) zero h g = refl
local_take (next {l = l} d) (suc n) h g = ap (λ (K : List Link). l ∷ K) (local_take d n h.1 g.1)

-- where no row at all is, the lists are;
pub local_same : {P : Link → Type 0} {K J : List Link} → Local P K J → All (λ l. ¬ P l) K → All (λ l. ¬ P l) J → K ≡ J
local_same end h g = refl
local_same (old e) h g = absurd (h.0 e)
local_same (new e) h g = absurd (g.0 e)
local_same (next {l = l} d) h g = ap (λ (K : List Link). l ∷ K) (local_same d h.1 g.1)

-- and the rows ahead are among those kept.
pub local_kept : {P : Link → Type 0} {K J : List Link} → Local P K J → (n : ℕ) → n ≤ length K → n ≤ length J
    → All (λ l. ¬ P l) (take n K) → All (λ l. ¬ P l) (take n J) → n ≤ common K J
local_kept {K} {J} d n h g i j = common_most K J n h g (local_take d n i j)

-- The same where only the first list has such rows.
data Ahead (P : Link → Type 0) : List Link → List Link → Type 0 where
  end : Ahead P [] []
  stop : {l : Link} {K J : List Link} → P l → Ahead P (l ∷ K) J
  next : {l : Link} {K J : List Link} → Ahead P K J → Ahead P (l ∷ K) (l ∷ J)

both : {P : Link → Type 0} {K J C : List Link} → Ahead P K C → Ahead P J C → Local P K J
both end end = end
both end (stop h) = new h
both (stop h) g = old h
both (next h) (stop g) = new g
both (next h) (next g) = next (both h g)

ahead_self : {P : Link → Type 0} (K : List Link) → Ahead P K K
ahead_self [] = end
ahead_self (l ∷ K) = next (ahead_self K)

-- Along the pairs: with nothing left at the node z, the links are the same until the first that names z.
module _ (s : Master) (z : ℕ) where
  ahead_along : (S : List Pair) (c : Left) → Ahead (Names s z) (along S c) (along S (void s z c))
  unfolding along keep
  ahead_along [] c = end
  ahead_along (p ∷ S) c = go (ℕ_discrete (number_in s p) z) (ahead_along S)
    where
      hit : (m : ℕ) → number_in s p ≡ z → ((d : Left) → Ahead (Names s z) (along S d) (along S (void s z d)))
          → Ahead (Names s z) (keep p m (along S (taken c p m))) (along S (void s z c))
      hit zero h ih = rw (taken_zero c p) (ih c)
      hit (suc m) h ih = stop h

      miss : (m : ℕ) → (number_in s p ≡ z → ⊥) → ((d : Left) → Ahead (Names s z) (along S d) (along S (void s z d)))
          → Ahead (Names s z) (keep p m (along S (taken c p m))) (keep p m (along S (taken (void s z c) p m)))
      miss zero h ih = rw (← void-taken s z c p 0 h) (ih (taken c p 0))
      miss (suc m) h ih = rw (← void-taken s z c p (suc m) h) (next (ih (taken c p (suc m))))

      go : Dec (number_in s p ≡ z) → ((d : Left) → Ahead (Names s z) (along S d) (along S (void s z d)))
          → Ahead (Names s z) (along (p ∷ S) c) (along (p ∷ S) (void s z c))
      go (yes h) ih = rw (void_named s z c p h, taken_zero (void s z c) p) (hit (lesser c p) h ih)
      go (no h) ih = rw (void_other s z c p h) (miss (lesser c p) h ih)

-- The edits of a node of the master s; B is the other master's nodes.
module _ (s : Master) (B : List Node) where
  -- the number may be written otherwise
  ahead : (n : ℕ) (v : Node) (A₁ A₂ : List Node) → v.number ≡ n → Absent v.number (A₁ ++ A₂) → Ahead (Names s n) (join_from s (A₁ ++ v ∷ A₂) B) (join_from s (A₁ ++ A₂) B)
  ahead n v A₁ A₂ e h = subst (λ (m : ℕ). Ahead (Names s m) (join_from s (A₁ ++ v ∷ A₂) B) (join_from s (A₁ ++ A₂) B)) e
      (rw (sorted_from s (A₁ ++ v ∷ A₂) B, without s v A₁ A₂ B h) (ahead_along s v.number (sort (pairs_from s (A₁ ++ v ∷ A₂) B)) (capacities_from s (A₁ ++ v ∷ A₂) B)))

  pub arrival : (A : List Node) (v : Node) → Absent v.number A → Local (Names s v.number) (join_from s A B) (join_from s (arrive v A) B)
  arrival A v h = both (ahead_self (join_from s A B)) (rw (append-nil A) at (ahead v.number v A [] refl (rw (append-nil A) h)))

  pub departure : (A : List Node) (n : ℕ) → Unique A → has n A ≡ true → Local (Names s n) (join_from s A B) (join_from s (depart n A) B)
  departure A n u i = go (split n A i)
    where
      go : Split n A → Local (Names s n) (join_from s A B) (join_from s (depart n A) B)
      go t = rw (t.departed, t.is_list) (both (ahead n t.v t.A₁ t.A₂ t.is_number (absent_of_unique t.A₁ t.v t.A₂ (rw t.is_list at u))) (ahead_self (join_from s (t.A₁ ++ t.A₂) B)))

  -- A change that keeps the number:
  amendment : (A : List Node) (n : ℕ) (f : Node → Node) → ((v : Node) → (f v).number ≡ v.number) → Unique A → has n A ≡ true
      → Local (Names s n) (join_from s A B) (join_from s (amend f n A) B)
  amendment A n f k u i = go (split n A i)
    where
      go : Split n A → Local (Names s n) (join_from s A B) (join_from s (amend f n A) B)
      go t = rw (t.amended f, t.is_list) (both (ahead n t.v t.A₁ t.A₂ t.is_number fresh)
          (ahead n (f t.v) t.A₁ t.A₂ (k t.v ∙ t.is_number) (rw (k t.v) fresh)))
        where
          fresh : Absent t.v.number (t.A₁ ++ t.A₂)
          fresh = absent_of_unique t.A₁ t.v t.A₂ (rw t.is_list at u)

  -- a move,
  pub move : (A : List Node) (n : ℕ) (x y : ℤ) → Unique A → has n A ≡ true → Local (Names s n) (join_from s A B) (join_from s (amend (moved x y) n A) B)
  move A n x y = amendment A n (moved x y) (λ v. refl)

  -- or a new capacity and sort.
  pub resize : (A : List Node) (n k t : ℕ) → Unique A → has n A ≡ true → Local (Names s n) (join_from s A B) (join_from s (amend (resized k t) n A) B)
  resize A n k t = amendment A n (resized k t) (λ v. refl)
