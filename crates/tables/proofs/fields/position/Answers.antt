-- Each arm says the value of the definition's case.
use Rattle.std.specs.Prelude.{◌≤◌, ◌≡◌, ℤ, pos, ◌-ℤ◌}
use Rattle.std.proofs.Common.{sym, ◌∙◌, ap, subst, arith}
use Rattle.std.proofs.Math.Facts.{to_z_pos, to_z-of_z, sfits_widen}
use mir.Syntax.{w16, w32}
use mir.Val.{to_z, of_z, SFits}
use Rattle.tables.specs.Definitions.Fields.{signed}
use Rattle.tables.specs.Laws.Fields.{signed_low, signed_less, signed_high}
use Rattle.tables.proofs.fields.position.Goals as goal

pub returns-in-0-to-32767 : goal.returns-in-0-to-32767
returns-in-0-to-32767 c = to_z_pos w16 (omega arith) ∙ sym (signed_low c.args.bits (omega arith))

pub returns-in-32768-to-65535 : goal.returns-in-32768-to-65535
returns-in-32768-to-65535 c =
    let n = c.args.bits in
    let z = c.from.result in
    let d = to_z w32 (of_z w32 z) -ℤ pos 65536 in
    let l : 32768 ≤ n = omega arith in
    let held : d ≡ signed n = ap (λ (x : ℤ). x -ℤ pos 65536) (to_z-of_z {w = w32} (record { sfits = c.from.type_inv }) ∙ c.from.ensures) ∙ sym (signed_less n l) in
    let f : SFits w16 d = subst (SFits w16) (sym held) (rw (signed_high n l c.requires) (record { sfits = omega arith })) in
    ap (λ (x : ℤ). to_z w16 (of_z w16 x)) (to_z-of_z {w = w32} (sfits_widen {w = w16} {w' = w32} tt f)) ∙ to_z-of_z f ∙ held
