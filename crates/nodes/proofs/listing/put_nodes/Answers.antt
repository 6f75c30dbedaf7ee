-- One node and its line more in each turn, up to the last.
use Rattle.std.proofs.Common.{refl, sym, ◌∙◌, ap, length}
use Rattle.std.proofs.lemmas.List.{length_push}
use native.Mathlib.Omega.{arith}
use Rattle.reader.specs.Definitions.{readable, row_after, start_row}
use Rattle.reader.proofs.Laws.{after_none, after_again, found_one, found_nothing}
use Rattle.nodes.specs.Laws.{lines_start, lines_turn, lines_end, node_given, node_within}
use Rattle.nodes.proofs.listing.put_nodes.Goals as goal

pub loop-v-init : goal.loop-v-init
loop-v-init c =
    let x = c.args in
    let e = c.new-v-items.ensures in
    rw c.into_iter-v-iterator.ensures.into_iter_gives (record {
      ready = (tt, tt);
      same = refl;
      table = ap (λ s. s.now) e.0;
      row = e.1 ∙ sym (after_none (start_row x.t.now));
      most = omega arith;
      near = omega arith;
      lines = lines_start (readable x.t.now) x.text.now x.at;
    })

pub put_node-end-requires : goal.put_node-end-requires
put_node-end-requires c =
    let l = c.loop-v in
    let t = c.args.t.now in
    let i = l.invariant in
    let n = length l.yielded in
    let h = node_within t n _ (found_one _ _ (sym (c.in-Some.ensures.steps.0 ∙ node_given t _ _ n i.table i.row))) in
    (omega arith, omega arith)

pub loop-v-preserved : goal.loop-v-preserved
loop-v-preserved c =
    let f = c.put_node-end in
    let l = c.loop-v in
    let x = c.args in
    let t = x.t.now in
    let i = l.invariant in
    let n = length l.yielded in
    let s = c.in-Some.ensures.steps in
    let e = found_one _ _ (sym (s.0 ∙ node_given t _ _ n i.table i.row)) in
    let h = node_within t n _ e in
    rw (length_push l.yielded c.in-Some.v) (record {
      ready = (tt, tt);
      same = f.auto.text ∙ i.same;
      table = ap (λ s. s.now) s.1 ∙ i.table;
      row = s.2 ∙ ap (λ k. row_after k 1) i.row ∙ after_again (start_row t) n 1;
      most = omega arith;
      near = omega arith;
      lines = lines_turn (readable t) x.text.now x.at l.text _ l.end f.result n _ e (omega arith) i.lines f.ensures.written;
    })

pub returns-clause-written : goal.returns-clause-written
returns-clause-written c =
    let l = c.loop-v in
    let x = c.args in
    let t = x.t.now in
    let n = length l.yielded in
    lines_end (readable t) x.text.now x.at _ _ n (found_nothing _ (sym (c.in-None.ensures.steps.0 ∙ node_given t _ _ n l.invariant.table l.invariant.row))) l.invariant.lines
