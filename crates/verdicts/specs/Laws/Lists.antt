-- The verdict on a list, by what a check or a comparison shows.
use Rattle.std.specs.Prelude.{ℕ, suc, ◌<◌, ◌≤◌, ◌≡◌, Bool, true, false, cond, List, [], ◌∷◌, ℤ, length, take, Some, Ok}
use Rattle.std.proofs.Common.{sym, ◌∙◌, subst, ap, arith}
use Rattle.std.proofs.Math.Seq.{take-length}
use Rattle.std.proofs.lemmas.List.{length-take-le}
use Rattle.matching.specs.Definitions.Rows.{Sorts, link_in, links_in, Joined}
use Rattle.matching.specs.Definitions.Nodes.{Node}
use Rattle.matching.specs.Definitions.Links.{Link, same_link, common}
use Rattle.matching.specs.Definitions.Join.{join}
use Rattle.matching.specs.Definitions.Sizes.{link_rows}
use Rattle.matching.proofs.Laws.Columns.{tabulate-length}
use Rattle.tables.specs.Definitions.Sizes.{list_size}
use Rattle.tables.specs.Definitions.Fields.{Bytes}
use Rattle.tables.specs.Definitions.Lists.{list_bytes, links_in as links_among, first_difference, differs, zero_from}
use Rattle.tables.specs.Laws.Rows.{some_from}
use Rattle.tables.specs.Laws.ListRead.{links_list}
use Rattle.tables.specs.Laws.Compare.{same_difference}
use Rattle.lists.specs.Lists.{LinksRead, Comparable, links_of}
use Rattle.lists.proofs.Laws.Rows.{links_taken}
use Rattle.contract.specs.Definitions.Answers.{Answer}
use Rattle.verdicts.specs.Lists.{links_on, by_row, list_answer, Listed, Beside}

-- How many links are read from rows.
pub in_length : (L : List (List ℕ)) (n : ℕ) → length (links_in L n) ≡ n
unfolding links_in
in_length L n = tabulate-length (link_in L) 0 n

-- The first n rows as a slice have the same links.
pub in_slice : (L : List (List ℕ)) (n : ℕ) → n ≤ length L → links_in (take n L) (length (take n L)) ≡ links_in L n
in_slice L n h = sym (links_taken (take n L) (length (take n L)) (omega arith)) ∙ ap links_of (take-length (take n L)) ∙ links_taken L n h

-- Rows of links that are J.
module _ (J : List Link) (L : List (List ℕ)) (n : ℕ) (most : n ≤ link_rows) (room : length L ≡ link_rows) (links : links_in L n ≡ J) where
  pub count : n ≡ length J
  count = sym (in_length L n) ∙ ap length links

  pub listed : Listed J L
  listed = record { most = omega (arith, count); room = room; links = subst (λ (k : ℕ). links_in L k ≡ J) count links }

  -- A comparison shows where the list leaves them.
  pub compared : (l : List ℕ) (r : Answer) → r ≡ by_row l n (first_difference l (list_bytes (links_in L n))) → r ≡ list_answer l J
  unfolding list_answer
  compared l r e = e ∙ ap (λ (K : List Link). by_row l n (first_difference l (list_bytes K))) links ∙ ap (λ (k : ℕ). by_row l k (first_difference l (list_bytes J))) count

  -- Links that were read from a list, which is zero after them, are all of it.
  pub reviewed : (l : List ℕ) → Bytes l → length l ≡ list_size → LinksRead l L n → zero_from l n ≡ true → Ok n ≡ list_answer l J
  reviewed l b e r z = compared l (Ok n) (ap (by_row l n) (sym (ap (first_difference l) (sym same) ∙ same_difference l)))
    where
      read : n ≡ length (links_among l)
      read = sym (in_length L n) ∙ ap length r.links

      same : l ≡ list_bytes (links_in L n)
      same = links_list l b e (rw read at z) ∙ ap list_bytes (sym r.links)

-- No more links are in common than the second list has.
pub kept_low : (K J : List Link) → common K J ≤ length J
unfolding common
kept_low [] J = omega arith
kept_low (k ∷ K) [] = omega arith
kept_low (k ∷ K) (i ∷ J) = go (same_link k i) (kept_low K J)
  where
    go : (t : Bool) → common K J ≤ length J → cond t (suc (common K J)) 0 ≤ suc (length J)
    go true h = omega arith
    go false h = omega arith

-- A row that differs is a row of the list.
pub row_low : (l f : List ℕ) (k : ℕ) → Some k ≡ first_difference l f → k < link_rows
row_low l f k e = low
  where
    low : k < link_rows
    low = unfold first_difference in (some_from (differs l f) link_rows 0 k (sym e)).low

-- The links of a set can be compared with a list.
pub comparable : {l ns : List ℕ} {at : List (List ℤ)} {cs : List ℕ} {s : Sorts} {A B : List Node} {L : List (List ℕ)} {n : ℕ}
    → Beside l ns at cs s → Joined A B L n → join A B ≡ links_on s ns at cs → Comparable l (take n L)
comparable {L = L} {n = n} b j e = record {
  size = b.size;
  most = omega (arith, length-take-le n L (omega (arith, j.most, j.room)), j.most);
  good = rw (links_taken L n (omega (arith, j.most, j.room)) ∙ j.links ∙ e) b.good;
}
