-- Four bytes hold the square of a difference within reach.
use Rattle.std.proofs.Common.{◌≡◌, ◌*◌, ◌≤◌, ◌∙◌, ap, arith, ℤ, pos, ◌-ℤ◌, ◌*ℤ◌, nat_abs, w16, w32, SFits, to_z, of_z, to_z-of_z}
use Rattle.matching.specs.Definitions.Pairs.{square}
use Rattle.matching.specs.Definitions.Columns.{reach}
use Rattle.matching.proofs.Laws.Distance.{times_self, square_le}
use Rattle.matching.proofs.Laws.Widths.{read_back, fits, apart}
use Rattle.matching.proofs.squared.Goals as goal

-- the difference, and what four bytes hold of its square
module _ {p q d : ℤ} (f : SFits w16 p) (g : SFits w16 q) (s : SFits w16 d) (h : nat_abs (p -ℤ q) ≤ reach) (e : square d ≡ square (to_z w16 (of_z w16 p) -ℤ to_z w16 (of_z w16 q))) where
  is_square : square d ≡ square (p -ℤ q)
  is_square = e ∙ ap square (apart f g)

  small : square d ≤ reach * reach
  small = omega (arith, is_square, square_le (p -ℤ q) reach h)

  product : SFits w32 (to_z w32 (of_z w32 (to_z w16 (of_z w16 d))) *ℤ to_z w32 (of_z w32 (to_z w16 (of_z w16 d))))
  product = rw (read_back s, times_self) (fits (pos (square d)) (omega (arith, small)))

pub overflow_cast-result : goal.overflow_cast-result
overflow_cast-result c =
    let s : SFits w16 c.difference.result = record { sfits = c.difference.type_inv } in
    rw (c.from-d.ensures, to_z-of_z (product c.ranges.p c.ranges.q s c.requires c.difference.ensures), read_back s, times_self)
    (tt, record { fits = omega (arith, small c.ranges.p c.ranges.q s c.requires c.difference.ensures) })

pub returns : goal.returns
returns c =
    let s : SFits w16 c.difference.result = record { sfits = c.difference.type_inv } in
    rw (c.from-d.ensures, to_z-of_z (product c.ranges.p c.ranges.q s c.requires c.difference.ensures), read_back s, times_self)
    (is_square c.ranges.p c.ranges.q s c.requires c.difference.ensures)
