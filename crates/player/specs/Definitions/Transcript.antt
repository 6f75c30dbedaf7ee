-- All that the replay program prints, as a function of the bytes that it reads.
use Rattle.std.specs.Prelude.{ℕ, zero, suc, ◌+◌, ◌*◌, ◌/◌, ◌%◌, min, cond, List, [], ◌++◌, eqb, ltb, length, take, drop, replicate}
use Rattle.tables.specs.Definitions.Sizes.{table_size, link_rows, list_size, edit_size}
use Rattle.tables.specs.Definitions.Rows.{flat}
use Rattle.tables.specs.Definitions.Lists.{links_in}
use Rattle.contract.specs.Definitions.Shapes.{Outcome}
use Rattle.contract.specs.Definitions.Calls.{pair_call, edit_call}
use Rattle.player.specs.Definitions.Lines.{line_room, refusal_in, load_line, edit_line, part_line, link_line, short_line}

-- After so many edits nothing more is read.
abbrev pub edits_most : ℕ
edits_most = 10000

abbrev pub tables_size : ℕ
tables_size = table_size + table_size

-- A drawing: two tables and their list.
pub record Drawing : Type 0 where
  pub a : List ℕ
  pub b : List ℕ
  pub list : List ℕ

abbrev pub drawing : List ℕ → List ℕ → List ℕ → Drawing
drawing a b l = record { a = a; b = b; list = l }

-- What Edit does with it.
abbrev pub outcome_of : Drawing → List ℕ → Outcome
outcome_of d e = edit_call d.a d.b d.list e

abbrev pub after : Drawing → List ℕ → Drawing
after d e = drawing (outcome_of d e).held.a (outcome_of d e).held.b (outcome_of d e).held.list

-- The line of edit e, the n-th.
unfoldable pub turn_line : ℕ → Drawing → List ℕ → List ℕ
unfolding edit_line links_in
turn_line n d e = edit_line n (outcome_of d e).code (length (links_in (outcome_of d e).held.list))

-- Edit k of es, from 0.
abbrev pub edit_at : List ℕ → ℕ → List ℕ
edit_at es k = take edit_size (drop (edit_size * k) es)

-- The drawing after the first k edits of es, and their lines. Refused edits are counted too.
unfoldable pub edited : Drawing → List ℕ → ℕ → Drawing
edited d es zero = d
edited d es (suc k) = after (edited d es k) (edit_at es k)

unfoldable pub edit_lines : Drawing → List ℕ → ℕ → List ℕ
unfolding turn_line edited
edit_lines d es zero = []
edit_lines d es (suc k) = edit_lines d es k ++ turn_line (suc k) (edited d es k) (edit_at es k)

-- The number of edits in n bytes that are played, and the line of the bytes left over, where there are any.
abbrev pub playable : ℕ → ℕ
playable n = min (n / edit_size) edits_most

unfoldable pub left_line : ℕ → List ℕ
left_line n = cond (ltb (n / edit_size) edits_most) (cond (eqb (n % edit_size) 0) [] (part_line (n % edit_size))) []

unfoldable pub link_lines : List ℕ → List ℕ
unfolding flat link_line links_in
link_lines l = flat link_line (links_in l)

-- What follows the load line of a drawing, es being what follows its tables.
unfoldable pub play_lines : Drawing → List ℕ → List ℕ
unfolding edit_lines left_line link_lines edited
play_lines d es = edit_lines d es (playable (length es)) ++ left_line (length es) ++ link_lines (edited d es (playable (length es))).list

-- Two tables are loaded, and where they are accepted es is played.
unfoldable pub load_lines : List ℕ → List ℕ → List ℕ → List ℕ → List ℕ
unfolding load_line play_lines
load_lines a b l es =
    let o : Outcome = pair_call a b l in
    cond (eqb (refusal_in o.code) 0)
    (load_line o.code ++ play_lines (drawing a b o.held.list) es)
    (load_line o.code)

-- An input is table A, table B, and edits.
abbrev pub table_a : List ℕ → List ℕ
table_a input = take table_size input

abbrev pub table_b : List ℕ → List ℕ
table_b input = take table_size (drop table_size input)

abbrev pub edits_in : List ℕ → List ℕ
edits_in input = drop tables_size input

-- The list is zero at first.
unfoldable pub transcript : List ℕ → List ℕ
unfolding load_lines
transcript input =
    cond (ltb (length input) tables_size)
    short_line
    (load_lines (table_a input) (table_b input) (replicate list_size 0) (edits_in input))

-- Room for what follows the load line: the edits, what is left over, the links; and for all.
abbrev pub play_room : ℕ
play_room = line_room * (edits_most + 1 + link_rows)

abbrev pub text_room : ℕ
text_room = line_room + play_room

-- What is read at most.
abbrev pub input_room : ℕ
input_room = tables_size + edit_size * edits_most
