-- The links of some nodes of A.
use Rattle.std.specs.Prelude.{ℕ, ◌≤◌, ◌≡◌, Bool, cond, not, ◌&&◌, ◌||◌, eqb}
use Rattle.std.proofs.Math.Path.{refl, ap}
use Rattle.std.proofs.Common.{sym, ◌∙◌, eq-eqb, ne_eqb, eqb-true}
use Rattle.std.proofs.Math.Bool.{true, false, false≢true}
use mathlib.Core.List.{List, [], ◌∷◌, Memᴰ}
use native.Mathlib.Omega.{arith}
use Rattle.matching.specs.Definitions.Lists.{All, sum_over}
use Rattle.matching.specs.declared.Master.{Master}
use Rattle.matching.specs.Definitions.Nodes.{Node, has}
use Rattle.matching.specs.Definitions.Pairs.{Before}
use Rattle.matching.specs.Definitions.Links.{Link, pair_of, amount_of, used, Increasing, links_for}
use Rattle.matching.proofs.Laws.Lists.{all_map}
use Rattle.matching.proofs.Laws.Order.{is_earlier, not_earlier}
use Rattle.matching.proofs.Theorems.Mutual.{put_link, puts}

-- A node's number is found, and what is found is a node's.
pub has_node : {v : Node} {C : List Node} → Memᴰ v C → has v.number C ≡ true
unfolding has
has_node {v} (Memᴰ.head {x = u} e) = rw (e, eq-eqb u.number u.number refl)
has_node {v} (Memᴰ.tail {x = u} i) = rw (has_node i) (go (eqb u.number v.number))
  where
    go : (t : Bool) → (t || true) ≡ true
    go true = refl
    go false = refl

pub record Found (n : ℕ) (C : List Node) : Type 0 where
  pub it : Node
  pub among : Memᴰ it C
  pub is_number : it.number ≡ n

pub found : (n : ℕ) (C : List Node) → has n C ≡ true → Found n C
unfolding has
found n [] h = absurd (false≢true h)
found n (v ∷ C) h = go (eqb v.number n) refl h (found n C)
  where
    go : (t : Bool) → eqb v.number n ≡ t → (t || has n C) ≡ true → (has n C ≡ true → Found n C) → Found n (v ∷ C)
    go true e h r = record { it = v; among = Memᴰ.head refl; is_number = eqb-true v.number n e }
    go false e h r = let f : Found n C = r h in record { it = f.it; among = Memᴰ.tail f.among; is_number = f.is_number }

module _ (C : List Node) where
  -- A property of every link of these nodes, and back.
  pub all_for : (P : Link → Type 0) (K : List Link) → All (λ l. has l.a C ≡ true → P l) K → All P (links_for C K)
  unfolding links_for
  all_for P [] h = tt
  all_for P (l ∷ K) h = go (has l.a C) refl (all_for P K h.1)
    where
      go : (t : Bool) → has l.a C ≡ t → All P (links_for C K) → All P (cond t (l ∷ links_for C K) (links_for C K))
      go true e r = (h.0 e, r)
      go false e r = r

  pub increasing_for : (K : List Link) → Increasing K → Increasing (links_for C K)
  unfolding links_for
  increasing_for [] o = tt
  increasing_for (l ∷ K) o = go (has l.a C) (increasing_for K o.1)
    where
      go : (t : Bool) → Increasing (links_for C K) → Increasing (cond t (l ∷ links_for C K) (links_for C K))
      go true r = (all_for (λ k. Before (pair_of l) (pair_of k)) K (all_map (λ k b e. b) K o.0), r)
      go false r = r

  -- They use no more than all links do,
  pub used_for : (s : Master) (K : List Link) (n : ℕ) → used s (links_for C K) n ≤ used s K n
  unfolding links_for used sum_over
  used_for s [] n = omega arith
  used_for s (l ∷ K) n = go (has l.a C) (used_for s K n)
    where
      go : (t : Bool) → used s (links_for C K) n ≤ used s K n → used s (cond t (l ∷ links_for C K) (links_for C K)) n ≤ used s (l ∷ K) n
      go true h = omega arith
      go false h = omega arith

  -- and have the same amounts at these nodes.
  pub amount_for : (a : ℕ) → has a C ≡ true → (K : List Link) (b : ℕ) → amount_of (links_for C K) a b ≡ amount_of K a b
  unfolding links_for amount_of
  amount_for a h [] b = refl
  amount_for a h (l ∷ K) b = go (has l.a C) refl (amount_for a h K b)
    where
      apart : has l.a C ≡ false → l.a ≡ a → ⊥
      apart e d = false≢true (sym e ∙ ap (λ (n : ℕ). has n C) d ∙ h)

      go : (t : Bool) → has l.a C ≡ t → amount_of (links_for C K) a b ≡ amount_of K a b → amount_of (cond t (l ∷ links_for C K) (links_for C K)) a b ≡ amount_of (l ∷ K) a b
      go true e r = ap (cond (eqb l.a a && eqb l.b b) l.amount) r
      go false e r = rw (ne_eqb l.a a (apart e)) r

-- A link ahead of all others stays ahead.
put_first : (l : Link) (K : List Link) → All (λ k. Before (pair_of l) (pair_of k)) K → put_link l K ≡ l ∷ K
unfolding put_link
put_first l [] h = refl
put_first l (k ∷ K) h = rw (not_earlier h.0)

puts_after : (l : Link) (K R : List Link) → All (λ k. Before (pair_of l) (pair_of k)) K → puts K (l ∷ R) ≡ l ∷ puts K R
unfolding puts put_link
puts_after l [] R h = refl
puts_after l (k ∷ K) R h = rw (puts_after l K R h.1, is_earlier h.0)

-- Links in order are those of some nodes put in order among the others.
pub puts_parts : (C D : List Node) (J : List Link) → Increasing J → All (λ l. has l.a D ≡ not (has l.a C)) J → puts (links_for C J) (links_for D J) ≡ J
unfolding puts links_for
puts_parts C D [] o h = refl
puts_parts C D (l ∷ J) o h = rw h.0 (go (has l.a C) (puts_parts C D J o.1 h.1))
  where
    go : (t : Bool) → puts (links_for C J) (links_for D J) ≡ J → puts (cond t (l ∷ links_for C J) (links_for C J)) (cond (not t) (l ∷ links_for D J) (links_for D J)) ≡ l ∷ J
    go true e = rw e (put_first l J o.0)
    go false e = puts_after l (links_for C J) (links_for D J) (all_for C (λ k. Before (pair_of l) (pair_of k)) J (all_map (λ k b d. b) J o.0)) ∙ rw e
