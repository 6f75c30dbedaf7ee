-- Light and bold exchanged: what a foundry gets that lends its two tables in the opposite order (document 02, P1).
use Rattle.std.specs.Prelude.{ℕ, ◌≡◌, cond, List, map, eqb}
use Rattle.matching.specs.Definitions.Lists.{Reordered}
use Rattle.matching.specs.Definitions.Links.{Link, exchange}
use Rattle.tables.specs.Definitions.Lists.{links_in}
use Rattle.contract.specs.Definitions.Shapes.{Outcome}
use Rattle.contract.specs.Definitions.Calls.{pair_call, spare_call, bands_call}

-- The links in the list that a call leaves.
abbrev pub listed : Outcome → List Link
listed o = links_in o.held.list

-- The byte of the other master; one that names none stays.
abbrev pub other_byte : ℕ → ℕ
other_byte m = cond (eqb m 0) 1 (cond (eqb m 1) 0 m)

-- Pair on the tables a and b with the list l, and on b and a with the list k, which hold anything.
pub record Exchanged (a b l k : List ℕ) : Type 0 where
  -- the same value: as many links
  pub value : (pair_call b a k).code ≡ (pair_call a b l).code
  -- the same links with their numbers exchanged and the same amounts, each once
  pub links : Reordered (map exchange (listed (pair_call a b l))) (listed (pair_call b a k))
  -- row for row the same squared distance: only rows of equal distance may stand in another order
  pub distances : map (λ (r : Link). r.distance) (listed (pair_call b a k)) ≡ map (λ (r : Link). r.distance) (listed (pair_call a b l))
  -- with the lists that they leave, Spare answers the same 32 bits for every node number, where it refuses too
  pub spare : (m n : ℕ) → (spare_call b a (pair_call b a k).held.list (other_byte m) n).code ≡ (spare_call a b (pair_call a b l).held.list m n).code
  -- and Bands too, with the same counts
  pub bands : (c : List ℕ) → (bands_call b a (pair_call b a k).held.list c).code ≡ (bands_call a b (pair_call a b l).held.list c).code
  pub counts : (c : List ℕ) → (bands_call b a (pair_call b a k).held.list c).others ≡ (bands_call a b (pair_call a b l).held.list c).others
