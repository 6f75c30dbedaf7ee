-- The lines of E11 and of the paragraph after it, as the definitions give them.
use Rattle.std.specs.Prelude.{◌+◌, ◌*◌, ◌≡◌, refl, []}
use Rattle.contract.specs.Definitions.Answers.{value_end}
use Rattle.player.specs.Definitions.Text.{bytes, digits, decimal, field, last_field}
use Rattle.player.specs.Definitions.Lines.{load_line, edit_line, link_line}
use Rattle.player.specs.Definitions.Transcript.{left_line}

pub record Lines : Type 0 where
  pub load : load_line 2 ≡ bytes "load 2\n"
  pub first : edit_line 1 0 2 ≡ bytes "edit 1 kept 0 links 2\n"
  pub second : edit_line 2 1 2 ≡ bytes "edit 2 kept 1 links 2\n"
  pub near : link_line (record { a = 3; b = 1; distance = 1; amount = 1 }) ≡ bytes "link 3 1 1 1\n"
  pub far : link_line (record { a = 1; b = 2; distance = 144; amount = 1 }) ≡ bytes "link 1 2 144 1\n"
  pub load-refused : load_line (3 * value_end + 511) ≡ bytes "load refused 3 row 511\n"
  pub edit_refused : edit_line 40 (10 * value_end) 2 ≡ bytes "edit 40 refused 10\n"
  pub part : left_line 29 ≡ bytes "part 9\n"
  pub whole : left_line 20 ≡ []

pub lines : Lines
unfolding digits decimal field last_field load_line edit_line link_line left_line
lines = record {
  load = refl;
  first = refl;
  second = refl;
  near = refl;
  far = refl;
  load-refused = refl;
  edit_refused = refl;
  part = refl;
  whole = refl;
}
