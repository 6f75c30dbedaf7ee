-- What is proved of the text beside the program's contracts.
use Rattle.std.specs.Prelude.{ℕ, ◌+◌, ◌<◌, ◌≡◌, List, [], ◌++◌, length, take}
use Rattle.std.proofs.Common.{sym, ◌∙◌, ap, arith, length-drop, length-take-le, take_all}
use Rattle.std.proofs.Math.Decide.{dec_lt}
use Rattle.matching.specs.Definitions.Nodes.{Node}
use Rattle.tables.specs.Definitions.Sizes.{number_size, table_size}
use Rattle.tables.specs.Definitions.Fields.{nat_at}
use Rattle.tables.specs.Definitions.Rows.{flat}
use Rattle.player.specs.Definitions.Text.{bytes}
use Rattle.reader.specs.Definitions.{numbered}
use Rattle.reader.proofs.Laws.{unsound_length, numbered_empty}
use Rattle.reader.proofs.Theorems.{readable_none}
use Rattle.nodes.specs.Definitions.{node_line, answer_line, table_in, listing, input_room}
use Rattle.nodes.specs.Laws.{whole}

nothing : (n : ℕ) → flat node_line [] ++ answer_line (numbered n []) ≡ bytes "none\n"
unfolding flat
nothing n = ap answer_line (numbered_empty n)

-- A table that is too long gives nothing,
pub too_long : (input : List ℕ) → number_size + table_size < length input → listing input ≡ bytes "none\n"
too_long input h =
    sym (whole input (omega arith))
    ∙ ap (λ (A : List Node). flat node_line A ++ answer_line (numbered (nat_at number_size input 0) A)) (readable_none (table_in input) (unsound_length (table_in input) longer))
    ∙ nothing (nat_at number_size input 0)
  where
    longer : length (table_in input) ≡ table_size → ⊥
    longer e = omega (arith, length-drop number_size input, e)

-- so what is read decides all that is printed.
pub read_decides : (input : List ℕ) → listing (take input_room input) ≡ listing input
read_decides input = go (dec_lt input_room (length input))
  where
    go : Dec (input_room < length input) → listing (take input_room input) ≡ listing input
    go (yes h) = too_long (take input_room input) (omega (arith, length-take-le input_room input (omega arith))) ∙ sym (too_long input (omega arith))
    go (no h) = ap listing (take_all input_room input (omega arith))
