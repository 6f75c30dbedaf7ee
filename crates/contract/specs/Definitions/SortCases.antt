-- Document 02's sorts (P2) as calls on bytes, in the form of Cases.
use Rattle.std.specs.Prelude.{ℕ, List, [], ◌∷◌, map, ℤ, pos}
use Rattle.matching.specs.Definitions.Nodes.{Node}
use Rattle.matching.specs.Cases.{e5, e5s}
use Rattle.matching.specs.Cases as theory
use Rattle.contract.specs.Definitions.Requests.{pair, edit, spare}
use Rattle.contract.specs.Definitions.Cases.{Case, case, single}
use Rattle.contract.specs.Definitions.Undo.{edit_bytes, arrival_of, resize_of}

-- A node of capacity 1, with a number, a position and a sort.
abbrev pub sorted : ℕ → ℤ → ℕ → Node
sorted n x t = record { number = n; x = x; y = pos 0; capacity = 1; sort = t }

-- An on-curve node nearer to an off-curve one than to the one of its own sort.
abbrev pub nearer : theory.Case
nearer = record {
  a = sorted 1 (pos 0) 0 ∷ [];
  b = sorted 1 (pos 1) 1 ∷ sorted 2 (pos 5) 0 ∷ [];
  links = record { a = 1; b = 2; distance = 25; amount = 1 } ∷ [];
}

-- A master whose nodes are all of the other sort.
abbrev pub apart : theory.Case
apart = record {
  a = sorted 1 (pos 0) 0 ∷ sorted 2 (pos 4) 0 ∷ [];
  b = sorted 1 (pos 0) 1 ∷ sorted 2 (pos 4) 1 ∷ [];
  links = [];
}

-- A second row of sort 2, in A and in B.
abbrev pub second_row : List Node
second_row = sorted 1 (pos 0) 0 ∷ sorted 2 (pos 4) 2 ∷ []

abbrev pub faulty_a : theory.Case
faulty_a = record { a = second_row; b = []; links = [] }

abbrev pub faulty_b : theory.Case
faulty_b = record { a = []; b = second_row; links = [] }

-- Edits of A, out of range or with a field that their kind does not use: an arrival and a new capacity of sort 2; a departure and a move that say a sort.
abbrev pub wrong_edits : List (List ℕ)
wrong_edits =
    arrival_of 0 (sorted 3 (pos 0) 2)
    ∷ resize_of 0 (sorted 1 (pos 0) 2)
    ∷ edit_bytes 2 0 (record { number = 1; x = pos 0; y = pos 0; capacity = 0; sort = 1 })
    ∷ edit_bytes 3 0 (record { number = 1; x = pos 0; y = pos 0; capacity = 0; sort = 1 })
    ∷ []

-- Kind 4 makes A 1 off-curve.
abbrev pub turning : List ℕ
turning = resize_of 0 (sorted 1 (pos 0) 1)

abbrev pub refused_edit : List ℕ → Case
refused_edit e = case e5 e5.links (edit e) 8 0 e5.links (e ∷ [])

abbrev pub sort_cases : List Case
sort_cases =
    case nearer [] pair 0 1 nearer.links []
    ∷ case apart [] pair 0 0 [] []
    -- Capacity 64 of sort 1 passes and is to spare, 65 is out of range.
    ∷ case (single (pos 0) 64 1) [] pair 0 0 [] []
    ∷ case (single (pos 0) 64 1) [] (spare 0 1) 0 64 [] []
    ∷ case (single (pos 0) 65 1) [] pair 2 0 [] []
    -- Sort 2 is out of range.
    ∷ case faulty_a [] pair 2 1 [] []
    ∷ case faulty_b [] pair 3 1 [] []
    -- A 1 loses its link, which A 2 gets: no row is kept.
    ∷ record {
      drawing = e5;
      list = e5.links;
      request = edit turning;
      number = 0;
      value = 0;
      redrawn = e5s;
      after = e5s.links;
      others = turning ∷ [];
    }
    ∷ map refused_edit wrong_edits
