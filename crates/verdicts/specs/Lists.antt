-- The verdict on a list, beside the links that it should have.
use Rattle.std.specs.Prelude.{ℕ, ◌*◌, ◌≤◌, ◌≡◌, true, cond, List, ◌++◌, ℤ, length, take, drop, Option, Some, None, Ok, Err}
use Rattle.matching.specs.Definitions.Rows.{Sorts, nodes_of, links_in}
use Rattle.matching.specs.Definitions.Lists.{All}
use Rattle.matching.specs.declared.Master.TheVariants.{A as master_a, B as master_b}
use Rattle.matching.specs.Definitions.Links.{Link, common}
use Rattle.matching.specs.Definitions.Join.{join}
use Rattle.matching.specs.Definitions.Sizes.{link_rows}
use Rattle.tables.specs.Definitions.Sizes.{link_size, list_size}
use Rattle.tables.specs.Definitions.Lists.{list_bytes, first_difference, zero_from}
use Rattle.tables.specs.Laws.Lists.{GoodLink}
use Rattle.stability.specs.Barred.{Barred}
use Rattle.lists.specs.Lists.{LinksRead}
use Rattle.contract.specs.Definitions.Answers.{Answer}
use Rattle.contract.specs.declared.Refused.{Refused}
use Rattle.contract.specs.declared.Refusal.TheVariants.{Damaged, Unfinished}

-- The links of a set of rows, of both sorts.
abbrev pub links_on : Sorts → List ℕ → List (List ℤ) → List ℕ → List Link
links_on s ns at cs = join (nodes_of s ns at cs master_a) (nodes_of s ns at cs master_b)

-- The refusal of a list that leaves the finished one in row k: too early, or something else stands there.
abbrev pub leaves : List ℕ → ℕ → Refused
leaves l k = record { refusal = cond (zero_from l k) Unfinished Damaged; row = k }

-- By the first row that differs: done with the number of links where there is none.
abbrev pub by_row : List ℕ → ℕ → Option ℕ → Answer
by_row l n None = Ok n
by_row l n (Some k) = Err (leaves l k)

-- The answer for a list that should have the links J.
unfoldable pub list_answer : List ℕ → List Link → Answer
list_answer l J = by_row l (length J) (first_difference l (list_bytes J))

-- The first rows have the links J.
pub record Listed (J : List Link) (L : List (List ℕ)) : Type 0 where
  pub most : length J ≤ link_rows
  pub room : length L ≡ link_rows
  pub links : links_in L (length J) ≡ J

-- What is compared: a list, and a set of rows whose links fit a list.
pub record Beside (l ns : List ℕ) (at : List (List ℤ)) (cs : List ℕ) (s : Sorts) : Type 0 where
  pub size : length l ≡ list_size
  pub good : All GoodLink (links_on s ns at cs)

-- What is reviewed: the list's n links in rows, the places of their nodes, and limits that bar every pair.
pub record Reviewed (l ns : List ℕ) (at : List (List ℤ)) (cs : List ℕ) (s : Sorts) (L P : List (List ℕ)) (n : ℕ) (K : List ℕ) : Type 0 where
  pub beside : Beside l ns at cs s
  pub read : LinksRead l L n
  pub places : length P ≡ link_rows
  pub barred : Barred ns at s K

-- The rows L are the links J, and zero follows them in the list.
pub record Finished (l : List ℕ) (J : List Link) (L : List (List ℕ)) : Type 0 where
  pub zero : zero_from l (length L) ≡ true
  pub links : links_in L (length L) ≡ J

-- What is settled: rows for links and places, and limits that bar every pair.
pub record Settled (ns : List ℕ) (at : List (List ℤ)) (s : Sorts) (L P : List (List ℕ)) (K : List ℕ) : Type 0 where
  pub room : length L ≡ link_rows
  pub places : length P ≡ link_rows
  pub barred : Barred ns at s K

-- Of the list l, that of the links K, r rows stay; from there on it is that of the links J.
pub record Rewritten (l : List ℕ) (K J : List Link) (l' : List ℕ) (r : ℕ) : Type 0 where
  pub kept : r ≡ common K J
  pub rows : l' ≡ take (link_size * r) l ++ drop (link_size * r) (list_bytes J)
  pub low : r ≤ link_rows
