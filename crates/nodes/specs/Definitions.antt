-- All that the listing program prints, as a function of the bytes that it reads: a number, and then a table.
use Rattle.std.specs.Prelude.{ℕ, ◌+◌, ◌*◌, cond, List, ◌++◌, ltb, ℤ, pos, negsuc, nat_abs, length, drop}
use Rattle.std.specs.Prelude.{Option, None, Some}
use Rattle.matching.specs.Definitions.Nodes.{Node}
use Rattle.tables.specs.Definitions.Sizes.{number_size, node_rows, table_size}
use Rattle.tables.specs.Definitions.Fields.{nat_at}
use Rattle.tables.specs.Definitions.Rows.{flat}
use Rattle.player.specs.Definitions.Text.{bytes, field, last_field}
use Rattle.player.specs.Definitions.Lines.{line_room, short_line}
use Rattle.reader.specs.Definitions.{numbered, readable}

-- A position behind a space, with its sign.
abbrev pub sign : ℤ → List ℕ
sign (pos n) = bytes " "
sign (negsuc n) = bytes " -"

unfoldable pub position : ℤ → List ℕ
position z = field (sign z) (nat_abs z)

-- A line with a node's fields behind a word.
unfoldable pub entry : List ℕ → Node → List ℕ
entry word v = field word v.number ++ position v.x ++ position v.y ++ field (bytes " ") v.capacity ++ last_field (bytes " ") v.sort

-- A node of the table, and the node with the number.
abbrev pub node_line : Node → List ℕ
node_line v = entry (bytes "node ") v

abbrev pub answer_line : Option Node → List ℕ
answer_line None = bytes "none\n"
answer_line (Some v) = entry (bytes "found ") v

abbrev pub table_in : List ℕ → List ℕ
table_in input = drop number_size input

unfoldable pub listing : List ℕ → List ℕ
listing input =
    cond (ltb (length input) number_size)
    short_line
    (flat node_line (readable (table_in input)) ++ answer_line (numbered (nat_at number_size input 0) (readable (table_in input))))

-- What is read at most, and room for what is printed.
abbrev pub input_room : ℕ
input_room = number_size + table_size + 1

abbrev pub text_room : ℕ
text_room = line_room * (node_rows + 1)
