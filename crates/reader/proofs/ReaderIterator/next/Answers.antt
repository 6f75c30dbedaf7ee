-- A node given is one row less to come.
use native.Mathlib.Omega.{arith}
use borrow.Author.Rules.{rules}
use Rattle.reader.proofs.Laws.{after_read, goes_on}
use Rattle.reader.proofs.ReaderIterator.next.Goals as goal

pub returns-clause-goes : goal.returns-clause-goes
returns-clause-goes c =
    let s = c.args.self.now in
    let r = c.node_at-node in
    record {
      on = λ f. goes_on s.table.now s.row r.result r.ensures (λ h. (tt, tt, omega (arith, c.row_after-self.ensures, after_read s.row 1 (omega arith))));
      keeps = search rules;
      rests = λ f. search rules;
    }
