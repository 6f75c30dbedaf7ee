-- A row of a list compared with a link.
use Rattle.std.specs.Prelude.{ℕ, suc, ◌+◌, ◌*◌, ◌-◌, ◌<◌, ◌≡◌, refl, Bool, true, false, not, ◌&&◌, List, [], ◌∷◌, eqb, length, get_or, drop, min}
use Rattle.std.proofs.Common.{sym, ◌∙◌, ap, ap₂, arith}
use Rattle.std.proofs.Math.ListN.{get_or-map}
use Rattle.std.proofs.lemmas.List.{length-map}
use Rattle.std.proofs.Math.Decide.{dec_lt}
use lib.Pointwise.{pointwise}
use Rattle.matching.specs.Definitions.Links.{Link, same_link, common}
use Rattle.matching.specs.Definitions.Rows.{link_of, link_in}
use Rattle.matching.specs.Definitions.Sizes.{link_rows}
use Rattle.tables.specs.Definitions.Sizes.{link_size, list_size}
use Rattle.tables.specs.Definitions.Fields.{Bytes}
use Rattle.tables.specs.Definitions.Rows.{flat, padded}
use Rattle.tables.specs.Definitions.Lists.{link_bytes, list_bytes, link_from, differs}
use Rattle.tables.specs.Laws.Rows.{zeros}
use Rattle.tables.specs.Laws.Lists.{list_length, list_bytes_lem, link_at}
use Rattle.tables.specs.Laws.Compare.{no_link, zero_link, same_rows}
use Rattle.lists.specs.Lists.{Comparable, links_of}
use Rattle.lists.proofs.Laws.Rows.{rest_more, rest_end}

-- A link's row, and that of no link.
abbrev row_of : Link → List ℕ
row_of l = l.a ∷ l.b ∷ l.distance ∷ l.amount ∷ []

abbrev pub blank : List ℕ
blank = 0 ∷ 0 ∷ 0 ∷ 0 ∷ []

row_is : (r : List ℕ) → length r ≡ 4 → r ≡ row_of (link_of r)
row_is [] e = absurd (omega arith)
row_is (a ∷ []) e = absurd (omega arith)
row_is (a ∷ b ∷ []) e = absurd (omega arith)
row_is (a ∷ b ∷ c ∷ []) e = absurd (omega arith)
row_is (a ∷ b ∷ c ∷ d ∷ []) e = refl
row_is (a ∷ b ∷ c ∷ d ∷ x ∷ xs) e = absurd (omega arith)

-- Rows are the same where their links are.
pub rows_same : (r s : List ℕ) → length r ≡ 4 → length s ≡ 4 → pointwise eqb r s ≡ same_link (link_of r) (link_of s)
rows_same r s p q =
    let k = link_of r in
    let l = link_of s in
    ap₂ (pointwise eqb) (row_is r p) (row_is s q) ∙ group (eqb k.a l.a) (eqb k.b l.b) (eqb k.distance l.distance) (eqb k.amount l.amount)
  where
    group : (t u v w : Bool) → (t && (u && (v && (w && true)))) ≡ (t && u && v && w)
    group false u v w = refl
    group true false v w = refl
    group true true false w = refl
    group true true true false = refl
    group true true true true = refl

-- A row differs where its fields do.
pub row_differs : (l : List ℕ) (L : List (List ℕ)) (k : ℕ) → Bytes l → Comparable l L → k < link_rows
    → (r s : List ℕ) → length r ≡ 4 → length s ≡ 4 → link_of r ≡ link_from l (link_size * k) → s ≡ get_or L k blank
    → not (pointwise eqb r s) ≡ differs l (list_bytes (links_of L)) k
unfolding differs
row_differs l L k b q low r s p w e at =
    ap not (rows_same r s p w ∙ ap₂ same_link e link
    ∙ sym (same_rows l (list_bytes K) (link_size * k) b (list_bytes_lem K) (omega (arith, q.size)) (omega (arith, list_length K (omega (arith, q.most, count))))))
  where
    K : List Link
    K = links_of L

    count : length K ≡ length L
    count = length-map L link_of

    link : link_of s ≡ link_from (list_bytes K) (link_size * k)
    link = ap link_of at ∙ sym (get_or-map link_of L k blank) ∙ sym row
      where
        row : link_from (list_bytes K) (link_size * k) ≡ get_or K k no_link
        row = unfold list_bytes padded in let m : ℕ = list_size - length (flat link_bytes K) in link_at K (zeros m) k no_link q.good (zero_link m)

-- Links in common: the k passed, and one more or none.
module _ (J L : List (List ℕ)) (k : ℕ) where
  abbrev pub Common : Type 0
  Common = common (links_of J) (links_of L) ≡ k + common (links_of (drop k J)) (links_of (drop k L))

module _ (J L : List (List ℕ)) (k : ℕ) (i : Common J L k) where
  abbrev later : ℕ
  later = common (links_of (drop k J)) (links_of (drop k L))

  pub common_more : k < length J → k < length L → same_link (link_in J k) (link_in L k) ≡ true → Common J L (k + 1)
  unfolding common
  common_more h g e =
      let one : later ≡ suc (common (links_of (drop (k + 1) J)) (links_of (drop (k + 1) L))) = rw (rest_more J k h, rest_more L k g, e) in
      omega (arith, i, one)

  pub common_here : k < length J → k < length L → same_link (link_in J k) (link_in L k) ≡ false → k ≡ common (links_of J) (links_of L)
  unfolding common
  common_here h g e =
      let none : later ≡ 0 = rw (rest_more J k h, rest_more L k g, e) in
      omega (arith, i, none)

  pub common_end : k ≡ min (length J) (length L) → k ≡ common (links_of J) (links_of L)
  unfolding common
  common_end e = omega (arith, i, none (dec_lt k (length J)))
    where
      none : Dec (k < length J) → later ≡ 0
      none (yes h) = rw (rest_more J k h, rest_end L k (omega arith))
      none (no h) = rw (rest_end J k (omega arith))
