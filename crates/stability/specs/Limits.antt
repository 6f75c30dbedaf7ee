-- Limits: the key at and past which a row takes no pair. What links show by themselves, before the pairs that they lack are looked at.
use Rattle.std.specs.Prelude.{ℕ, ◌≤◌, ◌<◌, ◌≡◌, List, [], ℤ, length, get_or}
use Rattle.matching.specs.Definitions.Rows.{Sorts, spans_of, On, link_in, links_in}
use Rattle.matching.specs.declared.Master.{Master}
use Rattle.matching.specs.Definitions.Pairs.{number_in}
use Rattle.matching.specs.Definitions.Links.{pair_of, used}
use Rattle.matching.specs.Definitions.Sizes.{set_rows}
use Rattle.stability.specs.Sizes.{free}
use Rattle.stability.specs.Links.{Stands, Ordered, key_of}

-- A row's limit: the key of its last link where its capacity is taken, else none.
pub data Limit (capacity taken last l : ℕ) : Type 0 where
  full : taken ≡ capacity → l ≡ last → Limit capacity taken last l
  spare : l ≡ free → Limit capacity taken last l

module _ (ns : List ℕ) (at : List (List ℤ)) (cs : List ℕ) (S : Sorts) (L : List (List ℕ)) (n : ℕ) where
  -- Row i of master m is used up by the links, none of which is past the limit l.
  pub record UsedUp (m : Master) (i l : ℕ) : Type 0 where
    pub all : used m (links_in L n) (get_or ns i 0) ≡ get_or cs i 0
    pub keys : (k : ℕ) → k < n → get_or ns i 0 ≡ number_in m (pair_of (link_in L k)) → key_of m (link_in L k) ≤ l

  pub data Limited (m : Master) (i l : ℕ) : Type 0 where
    limited : UsedUp m i l → Limited m i l
    unlimited : l ≡ free → Limited m i l

  -- Links in order, at their nodes' rows and distances, within the capacities; K has each row's limit.
  pub record Held (P : List (List ℕ)) (K : List ℕ) : Type 0 where
    pub room : length K ≡ set_rows
    pub order : Ordered L n
    pub stands : (k : ℕ) → k < n → Stands ns at S (link_in L k) (get_or (get_or P k []) 0 0) (get_or (get_or P k []) 1 0)
    pub some : (k : ℕ) → k < n → 1 ≤ (link_in L k).amount
    pub within : (t : ℕ) (m : Master) (i : ℕ) → On (spans_of S t) m i → used m (links_in L n) (get_or ns i 0) ≤ get_or cs i 0
    pub limits : (t : ℕ) (m : Master) (i : ℕ) → On (spans_of S t) m i → Limited m i (get_or K i 0)
