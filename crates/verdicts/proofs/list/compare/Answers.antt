-- The list beside the links' rows.
use Rattle.std.specs.Prelude.{◌≡◌, List, Err}
use Rattle.matching.specs.Definitions.Rows.{links_in}
use mathlib.Core.Path.{refl, sym, ◌∙◌, ap}
use native.Mathlib.Omega.{arith}
use Rattle.lists.proofs.Laws.Rows.{links_taken}
use Rattle.tables.specs.Definitions.Lists.{list_bytes, first_difference}
use Rattle.matching.specs.Definitions.Links.{Link}
use Rattle.verdicts.specs.Lists.{by_row}
use Rattle.verdicts.specs.Laws.Lists.{listed, compared, comparable, row_low}
use Rattle.verdicts.proofs.list.compare.Goals as goal
use Rattle.verdicts.proofs.list.compare.Goals.{After-first_difference}

pub first_difference-requires : goal.first_difference-requires
first_difference-requires c = comparable c.requires.0 c.join-n.ensures refl

-- The comparison is with the links of the rows.
difference : (c : After-first_difference) → c.first_difference.result ≡ first_difference c.args.list.now (list_bytes (links_in c.join-n.new.links c.join-n.result))
difference c =
    let j = c.join-n.ensures in
    c.first_difference.ensures ∙ ap (λ (K : List Link). first_difference c.args.list.now (list_bytes K)) (links_taken _ _ (omega (arith, j.most, j.room)))

pub leave-requires : goal.leave-requires
leave-requires c = (c.requires.0.size, row_low _ _ _ (sym c.in-Some.is ∙ difference (goal.at.leave-requires c).After-first_difference))

pub returns-in-None : goal.returns-in-None
returns-in-None c =
    let j = c.join-n.ensures in
    (compared _ _ _ j.most j.room j.links _ _ (ap (by_row _ _) (sym c.in-None.is ∙ difference (goal.at.returns-in-None c).After-first_difference)), listed _ _ _ j.most j.room j.links)

pub returns-in-Some : goal.returns-in-Some
returns-in-Some c =
    let j = c.join-n.ensures in
    (compared _ _ _ j.most j.room j.links _ _ (ap Err c.leave.ensures ∙ ap (by_row _ _) (sym c.in-Some.is ∙ difference (goal.at.returns-in-Some c).After-first_difference)), listed _ _ _ j.most j.room j.links)
