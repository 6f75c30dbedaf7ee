-- Rows of links, as the functions of this crate take and give them.
use Rattle.std.specs.Prelude.{ℕ, ◌≤◌, ◌≡◌, List, map, length}
use Rattle.matching.specs.Definitions.Lists.{All}
use Rattle.matching.specs.Definitions.Links.{Link}
use Rattle.matching.specs.Definitions.Rows.{link_of, links_in}
use Rattle.matching.specs.Definitions.Sizes.{link_rows}
use Rattle.tables.specs.Definitions.Sizes.{list_size}
use Rattle.tables.specs.Definitions.Lists.{links_in as listed}
use Rattle.tables.specs.Laws.Lists.{GoodLink}

-- The links that some rows are.
abbrev pub links_of : List (List ℕ) → List Link
links_of = map link_of

-- The first n of the rows are links.
pub record Held (L : List (List ℕ)) (n : ℕ) : Type 0 where
  pub most : n ≤ link_rows
  pub room : length L ≡ link_rows

-- They are those of a list.
pub record LinksRead (l : List ℕ) (L : List (List ℕ)) (n : ℕ) : Type 0 where
  pub most : n ≤ link_rows
  pub room : length L ≡ link_rows
  pub links : links_in L n ≡ listed l

-- They can be compared with a list: they fit their fields, as those of a join of accepted tables do.
pub record Comparable (l : List ℕ) (L : List (List ℕ)) : Type 0 where
  pub size : length l ≡ list_size
  pub most : length L ≤ link_rows
  pub good : All GoodLink (links_of L)

-- The distances of links.
abbrev pub distances : List Link → List ℕ
distances = map (λ (l : Link). l.distance)
