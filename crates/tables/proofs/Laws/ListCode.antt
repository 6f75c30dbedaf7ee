-- Links written as a list: what the loops of code keep, and what comes of it.
use Prim.Native.Nat.{ℕ, suc, ◌+◌, ◌*◌, ◌-◌, ◌≤◌}
use Rattle.std.specs.Prelude.{◌≡◌, Bool, true, false, cond, length, take, drop}
use Rattle.std.proofs.Math.Path.{sym, ap, ap₂}
use Rattle.std.proofs.Common.{◌∙◌, take-append-drop, length-take-le, length-drop, take_at, drop_at}
use mathlib.Core.List.{List, [], ◌∷◌, ◌++◌, append_assoc, append-nil}
use native.Mathlib.Omega.{arith}
use Rattle.std.proofs.Math.Seq.{drop-length}
use borrow.Rule.Slice.PartMut.{put_mid, Post-is}
use Rattle.matching.specs.Definitions.Links.{Link, same_link, common}
use Rattle.matching.proofs.Laws.Common.{common-take}
use Rattle.tables.specs.Definitions.Sizes.{number_size, distance_size, amount_size, link_b, link_distance, link_amount, link_size, link_rows, list_size}
use Rattle.tables.specs.Definitions.Fields.{nat_bytes}
use Rattle.tables.specs.Definitions.Rows.{flat, padded, put}
use Rattle.tables.specs.Definitions.Lists.{link_bytes, list_bytes}
use Rattle.tables.specs.Laws.Fields.{nat_length}
use Rattle.tables.specs.Laws.Rows.{zeros, flat_append, put_length, put-put}
use Rattle.tables.specs.Laws.Lists.{links_length}

-- A part of a list from i on, lent and come back as ys.
pub tail_back : (i : ℕ) (xs ys : List ℕ) → i ≤ length xs → put_mid i (length xs - i) xs ys ≡ take i xs ++ ys
tail_back i xs ys h =
    ap (λ (z : List ℕ). take i xs ++ (ys ++ z)) (Post-is i (length xs) xs h ∙ drop-length xs)
    ∙ ap (λ (z : List ℕ). take i xs ++ z) (append-nil ys)

-- What is put right behind what was put.
pub put_next : (u v xs : List ℕ) (i j : ℕ) → j ≡ i + length u → j ≤ length xs → put (put xs i u) j v ≡ put xs i (u ++ v)
put_next u v xs i j e h = ap (λ (k : ℕ). put (put xs i u) k v) e ∙ put-put u v xs i (omega arith)

-- A row put field by field.
pub link_put : (xs : List ℕ) (i : ℕ) (l : Link) → i + link_size ≤ length xs
    → put (put (put (put xs i (nat_bytes number_size l.a)) (i + link_b) (nat_bytes number_size l.b)) (i + link_distance) (nat_bytes distance_size l.distance)) (i + link_amount) (nat_bytes amount_size l.amount)
    ≡ put xs i (link_bytes l)
unfolding link_bytes
link_put xs i l h =
    put_next D M (put (put xs i A) (i + link_b) B) (i + link_distance) (i + link_amount) (omega (arith, nat_length distance_size l.distance)) (omega (arith, two))
    ∙ put_next B (D ++ M) (put xs i A) (i + link_b) (i + link_distance) (omega (arith, nat_length number_size l.b)) (omega (arith, one))
    ∙ put_next A (B ++ (D ++ M)) xs i (i + link_b) (omega (arith, nat_length number_size l.a)) (omega arith)
  where
    A : List ℕ
    A = nat_bytes number_size l.a

    B : List ℕ
    B = nat_bytes number_size l.b

    D : List ℕ
    D = nat_bytes distance_size l.distance

    M : List ℕ
    M = nat_bytes amount_size l.amount

    one : length (put xs i A) ≡ length xs
    one = put_length xs i A (omega (arith, nat_length number_size l.a))

    two : length (put (put xs i A) (i + link_b) B) ≡ length xs
    two = put_length (put xs i A) (i + link_b) B (omega (arith, one, nat_length number_size l.b)) ∙ one

-- The first rows of a list of links, and what stands behind them.
module _ (K : List Link) (m : ℕ) (h : m ≤ length K) where
  abbrev ahead : List ℕ
  ahead = flat link_bytes (take m K)

  abbrev behind : List ℕ
  behind = flat link_bytes (drop m K) ++ zeros (list_size - length (flat link_bytes K))

  ahead-length : length ahead ≡ link_size * m
  ahead-length = links_length (take m K) ∙ ap (λ (i : ℕ). link_size * i) (length-take-le m K h)

  list_parts : list_bytes K ≡ ahead ++ behind
  unfolding list_bytes padded
  list_parts =
      ap (λ (r : List ℕ). r ++ zeros (list_size - length (flat link_bytes K)))
      (ap (flat link_bytes) (sym (take-append-drop m K)) ∙ flat_append link_bytes (take m K) (drop m K))
      ∙ append_assoc ahead (flat link_bytes (drop m K)) (zeros (list_size - length (flat link_bytes K)))

  pub list_take : take (link_size * m) (list_bytes K) ≡ ahead
  list_take = ap (take (link_size * m)) list_parts ∙ take_at ahead behind (link_size * m) ahead-length

  list_drop : drop (link_size * m) (list_bytes K) ≡ behind
  list_drop = ap (drop (link_size * m)) list_parts ∙ drop_at ahead behind (link_size * m) ahead-length

  -- The rows from there on put at the front of p, which is as long, and zeros behind them.
  pub tail_written : (p : List ℕ) → length K ≤ link_rows → length p ≡ list_size - link_size * m
      → take (link_size * (length K - m)) (put p 0 (flat link_bytes (drop m K))) ++ zeros (length p - link_size * (length K - m)) ≡ drop (link_size * m) (list_bytes K)
  unfolding put
  tail_written p l e = ap₂ (λ (r : List ℕ) (n : ℕ). r ++ zeros n) (take_at rows (drop (0 + length rows) p) (link_size * (length K - m)) long) left ∙ sym list_drop
    where
      rows : List ℕ
      rows = flat link_bytes (drop m K)

      long : length rows ≡ link_size * (length K - m)
      long = links_length (drop m K) ∙ ap (λ (i : ℕ). link_size * i) (length-drop m K)

      left : length p - link_size * (length K - m) ≡ list_size - length (flat link_bytes K)
      left = omega (arith, links_length K)

pub rows_kept : (J K : List Link) (m : ℕ) → m ≤ length J → m ≤ length K → take m J ≡ take m K → take (link_size * m) (list_bytes J) ≡ take (link_size * m) (list_bytes K)
rows_kept J K m h g e = list_take J m h ∙ ap (flat link_bytes) e ∙ sym (list_take K m g)

-- Rows that stay, and the others written anew.
written_anew : (l : List ℕ) (K : List Link) (m : ℕ) → take (link_size * m) l ≡ take (link_size * m) (list_bytes K) → take (link_size * m) l ++ drop (link_size * m) (list_bytes K) ≡ list_bytes K
written_anew l K m e = ap (λ (r : List ℕ). r ++ drop (link_size * m) (list_bytes K)) e ∙ take-append-drop (link_size * m) (list_bytes K)

-- The links in common are as many as either has at most,
pub common_room : (K J : List Link) → (common K J ≤ length K) × (common K J ≤ length J)
unfolding common
common_room [] J = (omega arith, omega arith)
common_room (k ∷ K) [] = (omega arith, omega arith)
common_room (k ∷ K) (l ∷ J) = go (same_link k l) (common_room K J)
  where
    go : (t : Bool) → (common K J ≤ length K) × (common K J ≤ length J) → (cond t (suc (common K J)) 0 ≤ suc (length K)) × (cond t (suc (common K J)) 0 ≤ suc (length J))
    go true r = (omega arith, omega arith)
    go false r = (omega arith, omega arith)

-- so the rows behind them written anew make the list of one that of the other.
pub common_anew : (J K : List Link) → take (link_size * common J K) (list_bytes J) ++ drop (link_size * common J K) (list_bytes K) ≡ list_bytes K
common_anew J K =
    let r = common_room J K in
    written_anew (list_bytes J) K (common J K) (rows_kept J K (common J K) r.0 r.1 (common-take J K))
