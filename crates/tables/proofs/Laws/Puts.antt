-- Bytes put as code puts them: a part at once, row by row, and a row taken out.
use Rattle.std.specs.Prelude.{ℕ, suc, ◌+◌, ◌*◌, ◌-◌, ◌<◌, ◌≤◌, ◌≡◌, List, ◌++◌, length, get_or, take, drop}
use Rattle.std.specs.List.{copy_within}
use Rattle.std.proofs.Common.{◌∙◌, ap, ap₂, add-one, append_assoc, append-nil, length-append, length-take, length-drop, take_all, take_at, drop_of_length-le, drop-cons, arith}
use borrow.Rule.Slice.PartMut.{put_mid, Post-is}
use Rattle.tables.specs.Definitions.Sizes.{node_size, node_rows, table_size}
use Rattle.tables.specs.Definitions.Rows.{flat, put}
use Rattle.tables.specs.Definitions.Edits.{closed}
use Rattle.tables.specs.Laws.Rows.{zeros, flat-length, put_none, put-put}
use Rattle.tables.proofs.Laws.ListCode.{tail_back}

-- Where the last row begins.
abbrev last : ℕ
last = table_size - node_size

-- The part from i on.
pub part_from : (i : ℕ) (xs : List ℕ) → take (length xs - i) (drop i xs) ≡ drop i xs
part_from i xs = take_all (length xs - i) (drop i xs) (simp length-drop (omega arith))

-- A part copied whole.
pub part_put : (xs vs : List ℕ) (i : ℕ) → put_mid i (i + length vs - i) xs vs ≡ put xs i vs
unfolding put
part_put xs vs i = ap (λ (z : List ℕ). take i xs ++ (vs ++ z)) (Post-is i (i + length vs) xs (omega arith))

-- Row k is put, and the later ones are still to be put.
module _ {X : Type 0} (row : X → List ℕ) (w : ℕ) (wide : (x : X) → length (row x) ≡ w) where
  pub row_start : (xs : List ℕ) (rows : List X) → length xs ≡ w * length rows → put xs (w * 0) (flat row rows) ≡ flat row rows
  unfolding put
  row_start xs rows e =
      let z : w * 0 ≡ 0 = omega arith in
      let h : length xs ≤ 0 + length (flat row rows) = omega (arith, flat-length row w wide rows) in
      rw (z, drop_of_length-le xs h) (append-nil (flat row rows))

  pub row_turn : (xs : List ℕ) (rows : List X) (k : ℕ) (d : X) → k < length rows → w * k + w ≤ length xs
      → put (put xs (w * k) (row (get_or rows k d))) (w * (k + 1)) (flat row (drop (k + 1) rows)) ≡ put xs (w * k) (flat row (drop k rows))
  unfolding flat
  row_turn xs rows k d h g =
      let l = wide (get_or rows k d) in
      let e : w * (k + 1) ≡ w * k + length (row (get_or rows k d)) = omega arith in
      rw (e, add-one k, drop-cons rows k d h) (put-put (row (get_or rows k d)) (flat row (drop (suc k) rows)) xs (w * k) (omega arith))

  pub row_end : (xs : List ℕ) (rows : List X) (i k : ℕ) → length rows ≤ k → put xs i (flat row (drop k rows)) ≡ xs
  unfolding flat
  row_end xs rows i k h = rw (drop_of_length-le rows h) (put_none xs i)

-- The rows behind row k copied one row up, and zeros in the last.
pub row_closed : (t : List ℕ) (k : ℕ) → length t ≡ table_size → k < node_rows → (q z : List ℕ) → length q ≡ table_size
    → q ≡ copy_within t (node_size * (k + 1)) (length t) (node_size * k) → z ≡ zeros (length (take (length q - last) (drop last q)))
    → put_mid last (length q - last) q z ≡ closed t k
unfolding closed
row_closed t k s h q z l e f =
    tail_back last q z (omega arith)
    ∙ ap₂ (λ (r y : List ℕ). take last r ++ y) (e ∙ ap (λ (r : List ℕ). A ++ r ++ C) (take_all (length t - node_size * (k + 1)) B (omega (arith, length-drop (node_size * (k + 1)) t)))) (f ∙ ap zeros one)
    ∙ ap (λ (r : List ℕ). r ++ zeros node_size) (take_at (A ++ B) C last long)
    ∙ append_assoc A B (zeros node_size)
    ∙ ap (λ (i : ℕ). A ++ (drop (node_size * i) t ++ zeros node_size)) (add-one k)
  where
    A : List ℕ
    A = take (node_size * k) t

    B : List ℕ
    B = drop (node_size * (k + 1)) t

    C : List ℕ
    C = drop (node_size * k + (length t - node_size * (k + 1))) t

    long : length (A ++ B) ≡ last
    long = simp (length-append, length-take, length-drop) (omega arith)

    one : length (take (length q - last) (drop last q)) ≡ node_size
    one = simp (length-take, length-drop) (omega arith)
