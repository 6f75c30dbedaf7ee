-- Rows of one width, one after the other, and zero bytes behind them: their length, their bytes, and what is read from them.
-- The rows of nodes are such, and those of links.
use Prim.Native.Nat.{ℕ, zero, suc, ◌+◌, ◌*◌, ◌-◌, ◌<◌, ◌≤◌}
use Rattle.std.specs.Prelude.{◌≡◌, Bool, true, false, cond, eqb, get_or, take, drop}
use Rattle.std.proofs.Common.{sym, ◌∙◌, ap₂, arith, length-append, take-add, drop-drop, drop_at, eq-eqb, ne_eqb}
use Rattle.std.proofs.Math.Path.{ap}
use mathlib.Core.List.{List, [], ◌∷◌, ◌++◌, append_assoc}
use Rattle.std.proofs.Math.Nat.{mul-zero, mul-suc}
use Rattle.std.proofs.Math.ListN.{length}
use Rattle.std.proofs.lemmas.List.{length-replicate}
use Rattle.std.proofs.Math.Seq.{drop-append-add}
use Rattle.matching.specs.Definitions.Lists.{All}
use Rattle.matching.proofs.Laws.Lists.{all_append}
use Rattle.tables.specs.Definitions.Fields.{Bytes, nat_at}
use Rattle.tables.specs.Definitions.Rows.{flat, padded}
use Rattle.tables.specs.Laws.Fields.{nat_drop, nat_zeros}
use Rattle.tables.specs.Laws.Rows.{zeros}

pub padded-length : (n : ℕ) (xs : List ℕ) → length xs ≤ n → length (padded n xs) ≡ n
unfolding padded
padded-length n xs h = simp (length-append, length-replicate) (omega arith)

zeros_bytes : (n : ℕ) → Bytes (zeros n)
zeros_bytes zero = tt
zeros_bytes (suc n) = (omega arith, zeros_bytes n)

flat_bytes : {X : Type 0} (row : X → List ℕ) → ((x : X) → Bytes (row x)) → (xs : List X) → Bytes (flat row xs)
unfolding flat
flat_bytes row h [] = tt
flat_bytes row h (x ∷ xs) = all_append (λ b. b < 256) (row x) (flat row xs) (h x) (flat_bytes row h xs)

pub rows_bytes : {X : Type 0} (row : X → List ℕ) → ((x : X) → Bytes (row x)) → (n : ℕ) (xs : List X) → Bytes (padded n (flat row xs))
unfolding padded
rows_bytes row h n xs = let m : ℕ = n - length (flat row xs) in all_append (λ b. b < 256) (flat row xs) (zeros m) (flat_bytes row h xs) (zeros_bytes m)

module _ {X : Type 0} (w : ℕ) (bytes : X → List ℕ) (from : List ℕ → ℕ → X) where
  module _ (Good : X → Type 0) (long : (x : X) → length (bytes x) ≡ w) (moves : (l : List ℕ) (i : ℕ) → from l i ≡ from (drop i l) 0)
      (read : (x : X) (r : List ℕ) → Good x → from (bytes x ++ r) 0 ≡ x) where
    -- Row k is that of the k-th element; behind them there is d.
    pub row_at : (A : List X) (r : List ℕ) (k : ℕ) (d : X) → All Good A → ((i : ℕ) → from r i ≡ d) → from (flat bytes A ++ r) (w * k) ≡ get_or A k d
    unfolding flat
    row_at [] r k d g z = z (w * k)
    row_at (x ∷ A) r zero d g z = rw (mul-zero w, append_assoc (bytes x) (flat bytes A) r) (read x (flat bytes A ++ r) g.0)
    row_at (x ∷ A) r (suc k) d g z = rw (append_assoc (bytes x) (flat bytes A) r) (next (flat bytes A ++ r) ∙ row_at A r k d g.1 z)
      where
        rows : w * suc k ≡ length (bytes x) + w * k
        rows = omega (arith, long x, mul-suc w k)

        next : (s : List ℕ) → from (bytes x ++ s) (w * suc k) ≡ from s (w * k)
        next s = moves (bytes x ++ s) (w * suc k)
            ∙ ap (λ (q : List ℕ). from q 0) (ap (λ (i : ℕ). drop i (bytes x ++ s)) rows ∙ drop-append-add (bytes x) s (w * k))
            ∙ sym (moves s (w * k))

    -- Taken up to the first row whose leading number, of n bytes, is 0, they are the elements;
    module _ (n : ℕ) (taken : List ℕ → ℕ → ℕ → List X) (none : (l : List ℕ) (k : ℕ) → taken l k 0 ≡ [])
        (more : (l : List ℕ) (k m : ℕ) → taken l k (suc m) ≡ cond (eqb (nat_at n l (w * k)) 0) [] (from l (w * k) ∷ taken l (suc k) m))
        (some : (x : X) (r : List ℕ) → Good x → nat_at n (bytes x ++ r) 0 ≡ 0 → ⊥) where
      leading : (l : List ℕ) (k : ℕ) → nat_at n l (w * k) ≡ nat_at n (drop (w * k) l) 0
      leading l k = nat_drop n l (w * k) 0 (w * k) (omega arith)

      pub rows_read : (A : List X) (l : List ℕ) (z k m : ℕ) → All Good A → length A ≤ m → drop (w * k) l ≡ flat bytes A ++ zeros z → taken l k m ≡ A
      unfolding flat
      rows_read [] l z k zero g h e = none l k
      rows_read [] l z k (suc m) g h e = more l k m ∙ rw (eq-eqb (nat_at n l (w * k)) 0 (leading l k ∙ ap (λ (s : List ℕ). nat_at n s 0) e ∙ nat_zeros n z 0))
      rows_read (x ∷ A) l z k zero g h e = absurd (omega arith)
      rows_read (x ∷ A) l z k (suc m) g h e =
          more l k m
          ∙ rw (ne_eqb (nat_at n l (w * k)) 0 (λ q. some x rest g.0 (sym (leading l k ∙ ap (λ (s : List ℕ). nat_at n s 0) front) ∙ q)))
          (ap₂ (λ (y : X) (B : List X). y ∷ B) (moves l (w * k) ∙ ap (λ (s : List ℕ). from s 0) front ∙ read x rest g.0)
          (rows_read A l z (suc k) m g.1 (omega arith) behind))
        where
          rest : List ℕ
          rest = flat bytes A ++ zeros z

          front : drop (w * k) l ≡ bytes x ++ rest
          front = e ∙ append_assoc (bytes x) (flat bytes A) (zeros z)

          behind : drop (w * suc k) l ≡ rest
          behind = ap (λ (i : ℕ). drop i l) (mul-suc w k) ∙ sym (drop-drop w (w * k) l) ∙ ap (drop w) front ∙ drop_at (bytes x) rest w (long x)

  -- and written again, they are the bytes that they were read from.
  module _ (n : ℕ) (taken : List ℕ → ℕ → ℕ → List X) (none : (l : List ℕ) (k : ℕ) → taken l k 0 ≡ [])
      (more : (l : List ℕ) (k m : ℕ) → taken l k (suc m) ≡ cond (eqb (nat_at n l (w * k)) 0) [] (from l (w * k) ∷ taken l (suc k) m))
      (write : (l : List ℕ) (i : ℕ) → Bytes l → i + w ≤ length l → bytes (from l i) ≡ take w (drop i l)) (l : List ℕ) (h : Bytes l) where
    pub rows_written : (m k : ℕ) → ((j : ℕ) → j < k + m → w * j + w ≤ length l) → flat bytes (taken l k m) ≡ take (w * length (taken l k m)) (drop (w * k) l)
    unfolding flat
    rows_written zero k e = rw (none l k, mul-zero w)
    rows_written (suc m) k e = rw (more l k m) (go (eqb (nat_at n l (w * k)) 0) (rows_written m (suc k) (λ j g. e j (omega arith))))
      where
        R : List X
        R = taken l (suc k) m

        go : (t : Bool) → flat bytes R ≡ take (w * length R) (drop (w * suc k) l)
            → flat bytes (cond t [] (from l (w * k) ∷ R)) ≡ take (w * length (cond t [] (from l (w * k) ∷ R))) (drop (w * k) l)
        go true i = rw (mul-zero w)
        go false i =
            ap₂ (λ (u v : List ℕ). u ++ v) (write l (w * k) h (e k (omega arith))) (i ∙ ap (take (w * length R)) (sym next))
            ∙ sym (take-add w (w * length R) (drop (w * k) l))
            ∙ ap (λ (j : ℕ). take j (drop (w * k) l)) all
          where
            all : w + w * length R ≡ w * suc (length R)
            all = omega (arith, mul-suc w (length R))

            next : drop w (drop (w * k) l) ≡ drop (w * suc k) l
            next = drop-drop w (w * k) l ∙ ap (λ (j : ℕ). drop j l) (sym (mul-suc w k))
