-- The lines of the replay program: document 01, E11 and the paragraph after it.
use Rattle.std.specs.Prelude.{ℕ, ◌/◌, ◌%◌, cond, List, ◌++◌, eqb}
use Rattle.matching.specs.Definitions.Links.{Link}
use Rattle.contract.specs.Definitions.Answers.{value_end}
use Rattle.player.specs.Definitions.Text.{bytes, field, last_field}

-- Room for any line.
abbrev pub line_room : ℕ
line_room = 64

-- The refusal number and the value in the 32-bit answer of a call.
abbrev pub refusal_in : ℕ → ℕ
refusal_in answer = answer / value_end

abbrev pub value_in : ℕ → ℕ
value_in answer = answer % value_end

-- After loading: the number of links, or what refuses a table and its row.
unfoldable pub load_line : ℕ → List ℕ
unfolding field last_field
load_line answer =
    cond (eqb (refusal_in answer) 0)
    (last_field (bytes "load ") (value_in answer))
    (field (bytes "load refused ") (refusal_in answer) ++ last_field (bytes " row ") (value_in answer))

-- After the n-th edit: the rows kept and the number of links now, or what refuses it.
unfoldable pub edit_line : ℕ → ℕ → ℕ → List ℕ
unfolding field last_field
edit_line n answer links =
    field (bytes "edit ") n
    ++ cond (eqb (refusal_in answer) 0)
    (field (bytes " kept ") (value_in answer) ++ last_field (bytes " links ") links)
    (last_field (bytes " refused ") (refusal_in answer))

-- Bytes left over, too few for an edit.
abbrev pub part_line : ℕ → List ℕ
part_line n = last_field (bytes "part ") n

-- A link, in its four fields.
unfoldable pub link_line : Link → List ℕ
unfolding field last_field
link_line l = field (bytes "link ") l.a ++ field (bytes " ") l.b ++ field (bytes " ") l.distance ++ last_field (bytes " ") l.amount

-- Too few bytes for two tables.
abbrev pub short_line : List ℕ
short_line = bytes "short\n"
