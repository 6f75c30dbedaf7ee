-- The answer by cases.
use Rattle.std.proofs.Common.{sym, ◌∙◌, ap}
use Rattle.player.proofs.Laws.Text.{written_as}
use Rattle.reader.specs.Definitions.{numbered, readable}
use Rattle.reader.proofs.Laws.{found_one, found_nothing}
use Rattle.nodes.specs.Definitions.{answer_line}
use Rattle.nodes.proofs.listing.put_answer.Goals as goal

pub returns-in_default-clause-written : goal.returns-in_default-clause-written
returns-in_default-clause-written c =
    let x = c.args in
    written_as x.text.now _ _ _ x.at _ (ap answer_line (sym (found_nothing (numbered x.n (readable x.t.now)) (sym c.look_up.ensures ∙ c.in_default.is)))) c.put_word.ensures

pub returns-clause-written : goal.returns-clause-written
returns-clause-written c =
    let x = c.args in
    written_as x.text.now _ _ _ x.at _ (ap answer_line (sym (found_one (numbered x.n (readable x.t.now)) _ (sym c.look_up.ensures ∙ c.in-Some.is)))) c.put_node.ensures.written
