-- Rows of links, one at a time, as loops take them.
use Rattle.std.specs.Prelude.{ℕ, zero, suc, ◌+◌, ◌*◌, ◌-◌, ◌<◌, ◌≤◌, ◌≡◌, refl, List, [], ◌∷◌, ◌++◌, length, get_or, take, drop, set}
use Rattle.std.proofs.Common.{sym, ◌∙◌, ap, ap₂, add-one, append_assoc, drop-cons, drop_of_length-le, zero-add, eq-eqb, ne_eqb, length-take, length-drop, arith}
use Rattle.std.proofs.lemmas.List.{map-append, drop-map, length-map}
use borrow.Rule.Slice.PartMut.{put_mid}
use Rattle.std.proofs.Math.Seq.{take-suc}
use Rattle.matching.specs.Definitions.Lists.{sum_over}
use Rattle.matching.specs.declared.Master.{Master}
use Rattle.matching.specs.Definitions.Pairs.{number_in}
use Rattle.matching.specs.Definitions.Links.{Link, pair_of, used}
use Rattle.matching.specs.Definitions.Columns.{tabulate}
use Rattle.matching.specs.Definitions.Rows.{link_of, link_in, links_in}
use Rattle.matching.specs.Definitions.Sizes.{link_rows}
use Rattle.matching.proofs.Laws.Columns.{tabulate_snoc}
use Rattle.matching.proofs.Laws.Sets.{link_more}
use Rattle.tables.specs.Definitions.Sizes.{number_size, link_size, list_size}
use Rattle.tables.specs.Definitions.Fields.{nat_at}
use Rattle.tables.specs.Definitions.Rows.{flat, put}
use Rattle.tables.specs.Definitions.Lists.{link_bytes, list_bytes, link_from, links_from}
use Rattle.tables.specs.Laws.Rows.{zeros}
use Rattle.tables.specs.Laws.ListRead.{links_on}
use Rattle.tables.proofs.Laws.ListCode.{tail_back, tail_written}
use Rattle.lists.specs.Lists.{links_of}

-- The links from row i on: one and the later ones, or none.
module _ (L : List (List ℕ)) (i : ℕ) where
  pub rest_more : i < length L → links_of (drop i L) ≡ link_in L i ∷ links_of (drop (i + 1) L)
  rest_more h = rw (add-one i, drop-cons L i [] h)

  pub rest_end : length L ≤ i → links_of (drop i L) ≡ []
  rest_end h = rw (drop_of_length-le L h)

-- The first n rows as a slice.
pub links_taken : (L : List (List ℕ)) (n : ℕ) → n ≤ length L → links_of (take n L) ≡ links_in L n
unfolding links_in tabulate
links_taken L zero h = refl
links_taken L (suc n) h =
    ap links_of (take-suc L n [] h)
    ∙ map-append link_of (take n L) (get_or L n [] ∷ [])
    ∙ ap (λ (K : List Link). K ++ (link_in L n ∷ [])) (links_taken L n (omega arith))
    ∙ rw (tabulate_snoc (link_in L) 0 n, zero-add n)

-- The rows R from `from` on written at the front of a list's part p, which is then q, and zeros behind them.
pub tail_zeros : (L R : List (List ℕ)) (from : ℕ) (p q z : List ℕ) → R ≡ drop from L → from ≤ length L → length L ≤ link_rows → length p ≡ list_size - link_size * from → length q ≡ length p
    → q ≡ put p 0 (flat link_bytes (links_of R)) → z ≡ zeros (length (take (length q - link_size * length R) (drop (link_size * length R) q)))
    → put_mid (link_size * length R) (length q - link_size * length R) q z ≡ drop (link_size * from) (list_bytes (links_of L))
tail_zeros L R from p q z r h m s k e f =
    tail_back (link_size * length R) q z (omega (arith, count))
    ∙ ap₂ (λ (x y : List ℕ). take (link_size * length R) x ++ y) (e ∙ ap (λ (J : List Link). put p 0 (flat link_bytes J)) (ap links_of r ∙ sym (drop-map link_of from L))) (f ∙ ap zeros left)
    ∙ ap (λ (n : ℕ). take (link_size * n) (put p 0 (flat link_bytes (drop from (links_of L)))) ++ zeros (length p - link_size * n)) (count ∙ ap (λ (n : ℕ). n - from) (sym long))
    ∙ tail_written (links_of L) from (omega (arith, long)) p (omega (arith, long)) s
  where
    long : length (links_of L) ≡ length L
    long = length-map L link_of

    count : length R ≡ length L - from
    count = ap length r ∙ length-drop from L

    left : length (take (length q - link_size * length R) (drop (link_size * length R) q)) ≡ length p - link_size * length R
    left = simp (length-take, length-drop) (omega arith)

-- A row of the list read: its A number says whether it is a link,
pub row_number : (l : List ℕ) (k : ℕ) (r : List ℕ) → link_of r ≡ link_from l (link_size * k) → nat_at number_size l (link_size * k) ≡ get_or r 0 0
unfolding link_from
row_number l k r e = sym (ap (λ (j : Link). j.a) e)

-- and then it is one link more.
pub read_more : (l : List ℕ) (L : List (List ℕ)) (W : List Link) (k : ℕ) (r : List ℕ) → k < link_rows → length L ≡ link_rows
    → (get_or r 0 0 ≡ 0 → ⊥) → link_of r ≡ link_from l (link_size * k) → links_in L k ++ links_from l k (link_rows - k) ≡ W
    → links_in (set L k r) (k + 1) ++ links_from l (k + 1) (link_rows - (k + 1)) ≡ W
read_more l L W k r h s z v e =
    ap (λ (K : List Link). K ++ later) (link_more L k r (omega arith))
    ∙ append_assoc (links_in L k) (link_of r ∷ []) later
    ∙ ap (λ (K : List Link). links_in L k ++ K) (ap (λ (j : Link). j ∷ later) v ∙ sym (links_on l k h (λ y. z (sym (row_number l k r v) ∙ y))))
    ∙ e
  where
    later : List Link
    later = links_from l (k + 1) (link_rows - (k + 1))

-- What the links from row i on use: the amount in it, and what the later ones use.
module _ (L : List (List ℕ)) (m : Master) (number i : ℕ) where
  pub used_its : i < length L → number_in m (pair_of (link_in L i)) ≡ number → used m (links_of (drop i L)) number ≡ (link_in L i).amount + used m (links_of (drop (i + 1) L)) number
  unfolding used sum_over
  used_its h e = rw (rest_more L i h, eq-eqb (number_in m (pair_of (link_in L i))) number e)

  pub used_other : i < length L → (number_in m (pair_of (link_in L i)) ≡ number → ⊥) → used m (links_of (drop i L)) number ≡ used m (links_of (drop (i + 1) L)) number
  unfolding used sum_over
  used_other h e = rw (rest_more L i h, ne_eqb (number_in m (pair_of (link_in L i))) number e) (zero-add _)

  pub used_end : length L ≤ i → used m (links_of (drop i L)) number ≡ 0
  unfolding used sum_over
  used_end h = rw (rest_end L i h)
