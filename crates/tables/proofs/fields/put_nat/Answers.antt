-- The low bytes of the number, copied.
use Rattle.std.proofs.Common.{◌≡◌, ◌∙◌, ap, take}
use Rattle.tables.specs.Definitions.Fields.{nat_bytes}
use Rattle.tables.specs.Laws.Fields.{nat_length, bytes_le}
use Rattle.tables.proofs.Laws.Puts.{part_put}
use Rattle.tables.proofs.fields.put_nat.Goals as goal

pub returns : goal.returns
returns g c =
    let x = c.args in
    let V = nat_bytes g.row.W x.n in
    let bytes : c.copy_from_slice.new.self ≡ V = c.copy_from_slice.ensures.after ∙ ap (take g.row.W) c.to_le_bytes.ensures ∙ bytes_le g.row.W x.n c.requires.0 in
    rw bytes (rw (nat_length g.row.W x.n) at (part_put x.s.now V x.at))
