-- Document 01's cases E1 to E9 as calls on bytes. Their drawings and joins are those of matching's Cases.
use Rattle.std.specs.Prelude.{ℕ, ◌+◌, ◌*◌, ◌≡◌, List, [], ◌∷◌, ◌++◌, ℤ, pos, take, drop, replicate}
use Rattle.matching.specs.Definitions.Links.{Link}
use Rattle.matching.specs.Cases.{e1, e2, e3, e5, e5x, e6, e7}
use Rattle.matching.specs.Cases as theory
use Rattle.tables.specs.Definitions.Sizes.{count_size, counts_size}
use Rattle.tables.specs.Definitions.Fields.{nat_bytes}
use Rattle.tables.specs.Definitions.Tables.{table_bytes}
use Rattle.tables.specs.Definitions.Lists.{list_bytes}
use Rattle.contract.specs.Definitions.Answers.{value_end}
use Rattle.contract.specs.Definitions.Buffers.{lent}
use Rattle.contract.specs.Definitions.Shapes.{Outcome}
use Rattle.contract.specs.Definitions.Requests.{Request, pair, step, edit, spare, bands, shape}
use Rattle.contract.specs.Definitions.Calls.{call}
use Rattle.contract.specs.Definitions.Undo.{move_of}

-- A case: a drawing, the links in the lent list, a call; its number and value, and then the drawing, the links in the list and the further buffers.
pub record Case : Type 0 where
  pub drawing : theory.Case
  pub list : List Link
  pub request : Request
  pub number : ℕ
  pub value : ℕ
  pub redrawn : theory.Case
  pub after : List Link
  pub others : List (List ℕ)

-- The call shows just that.
unfoldable pub Right : Case → Type 0
Right k = ◌≡◌ {A = Outcome} (call (shape k.request) (lent (table_bytes k.drawing.a) (table_bytes k.drawing.b) (list_bytes k.list))) (record {
  code = k.number * value_end + k.value;
  held = lent (table_bytes k.redrawn.a) (table_bytes k.redrawn.b) (list_bytes k.after);
  others = k.others;
})

-- A case that changes no table.
abbrev pub case : theory.Case → List Link → Request → ℕ → ℕ → List Link → List (List ℕ) → Case
case d l q n v k xs = record { drawing = d; list = l; request = q; number = n; value = v; redrawn = d; after = k; others = xs }

-- E4: one node of A, with a position, a capacity and a sort.
abbrev pub single : ℤ → ℕ → ℕ → theory.Case
single x k t = record { a = record { number = 1; x = x; y = pos 0; capacity = k; sort = t } ∷ []; b = []; links = [] }

-- E3: one link in band 32.
abbrev pub e3_counts : List ℕ
e3_counts = replicate (count_size * 32) 0 ++ nat_bytes count_size 1

-- E8: the first row zero, the second row E7's.
abbrev pub damaged_links : List Link
damaged_links = record { a = 0; b = 0; distance = 0; amount = 0 } ∷ take 1 (drop 1 e7.links)

-- E9: a move of A 2 to (3, 0).
abbrev pub moving : List ℕ
moving = move_of 0 (record { number = 2; x = pos 3; y = pos 0; capacity = 0; sort = 0 })

-- E8 is for every edit e of the stated length.
abbrev pub cases : List ℕ → List Case
cases e =
    -- E1
    case e1 [] pair 0 0 [] []
    ∷ case e1 [] step 0 0 [] []
    -- E2
    ∷ case e2 [] pair 0 0 [] []
    ∷ case e2 [] (spare 0 1) 0 1 [] []
    -- E3
    ∷ case e3 [] pair 0 1 e3.links []
    ∷ case e3 e3.links (bands (replicate counts_size 7)) 0 0 e3.links (e3_counts ∷ [])
    -- E4
    ∷ case (single (pos 16385) 1 0) [] pair 2 0 [] []
    ∷ case (single (pos 0) 64 0) [] pair 0 0 [] []
    ∷ case (single (pos 0) 65 0) [] pair 2 0 [] []
    -- E5
    ∷ case e5 [] pair 0 1 e5.links []
    ∷ case e5x [] pair 0 1 e5.links []
    -- E6
    ∷ case e6 [] pair 0 2 e6.links []
    ∷ case e6 e6.links (spare 1 2) 0 1 e6.links []
    -- E7
    ∷ case e7 [] pair 0 3 e7.links []
    -- E8
    ∷ case e7 [] (edit e) 5 0 [] (e ∷ [])
    ∷ case e7 [] step 0 1 (take 1 e7.links) []
    ∷ case e7 damaged_links (edit e) 4 0 damaged_links (e ∷ [])
    ∷ case e7 damaged_links step 4 0 damaged_links []
    -- E9
    ∷ case e7 e7.links (edit moving) 0 3 e7.links (moving ∷ [])
    ∷ []
