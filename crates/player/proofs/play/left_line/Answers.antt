-- A line where bytes of an edit are left over and edits are still read, otherwise none.
use Rattle.player.proofs.Laws.Text.{written_none, written_as}
use Rattle.player.proofs.Laws.Play.{left_part, left_nothing, left_unread}
use Rattle.player.proofs.play.left_line.Goals as goal
use Rattle.player.proofs.play.left_line.Goals.{else-n-lt-EDITS-via-then-n-lt-EDITS+else-left-ne0, else-n-lt-EDITS-via-else-n-lt-EDITS}

pub returns-then-left-ne0-clause-written : goal.returns-then-left-ne0-clause-written
returns-then-left-ne0-clause-written c = let x = c.args in written_as x.text.now _ _ _ x.at _ (left_part x.n c.if-n-lt-EDITS.true c.if-left-ne0.true) c.put_last.ensures.written

pub returns-clause-written : goal.returns-clause-written
returns-clause-written c =
    let x = c.args in
    elim c.else-n-lt-EDITS.branch [
      | else-n-lt-EDITS-via-then-n-lt-EDITS+else-left-ne0 w ↦ written_as x.text.now _ _ _ x.at x.at (left_nothing x.n w.if-n-lt-EDITS.true w.if-left-ne0.false) (written_none x.text.now x.at)
      | else-n-lt-EDITS-via-else-n-lt-EDITS w ↦ written_as x.text.now _ _ _ x.at x.at (left_unread x.n w.if-n-lt-EDITS.false) (written_none x.text.now x.at)
    ]
