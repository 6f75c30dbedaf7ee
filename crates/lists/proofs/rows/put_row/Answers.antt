-- Four fields put one behind the other.
use Prim.Native.Nat.{ℕ, ◌+◌}
use mathlib.Core.Path.{◌∙◌, ap}
use mathlib.Core.List.{List}
use Rattle.matching.specs.Definitions.Rows.{link_of}
use Rattle.tables.specs.Definitions.Sizes.{number_size, distance_size, amount_size, link_b, link_distance, link_amount}
use Rattle.tables.specs.Definitions.Fields.{nat_bytes}
use Rattle.tables.specs.Definitions.Rows.{put}
use Rattle.tables.proofs.Laws.ListCode.{link_put}
use Rattle.lists.proofs.rows.put_row.Goals as goal

pub returns : goal.returns
returns c =
    let at = c.args.at in
    let l = link_of c.args.link in
    c.put_nat-4.ensures
    ∙ ap (λ (s : List ℕ). put s (at + link_amount) (nat_bytes amount_size l.amount)) (c.put_nat-3.ensures
    ∙ ap (λ (s : List ℕ). put s (at + link_distance) (nat_bytes distance_size l.distance)) (c.put_nat-2.ensures
    ∙ ap (λ (s : List ℕ). put s (at + link_b) (nat_bytes number_size l.b)) c.put_nat.ensures))
    ∙ link_put c.args.part.now at l c.requires
