-- The verdict on a table.
use Rattle.std.specs.Prelude.{ℕ, ◌*◌, ◌≡◌, true, List}
use Rattle.tables.specs.Definitions.Sizes.{node_size}
use Rattle.tables.specs.Definitions.Tables.{row_number, fields_zero}

-- Row k of a table is zero.
pub record ZeroRow (t : List ℕ) (k : ℕ) : Type 0 where
  pub number : row_number t k ≡ 0
  pub fields : fields_zero t (node_size * k) ≡ true
