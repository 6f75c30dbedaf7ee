-- The rows, and the zeros behind them.
use Rattle.std.proofs.Common.{◌-◌, length, drop, take_all, length-drop, arith}
use Rattle.lists.proofs.Laws.Rows.{tail_zeros}
use Rattle.lists.proofs.rows.write_links.Goals as goal

pub returns : goal.returns
returns c =
    let x = c.args in
    let L = x.links.now in
    let q = c.requires in
    tail_zeros L _ x.from x.part.now _ _ (take_all (length L - x.from) (drop x.from L) (omega (arith, length-drop x.from L))) q.1 q.2 q.0
    c.put_rows.auto.part c.put_rows.ensures (c.fill.ensures.after (λ y e. e))
