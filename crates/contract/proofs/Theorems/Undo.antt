-- Undo: of accepted tables and their finished list, an edit that is done and the edit back leave what was there.
use Rattle.std.specs.Prelude.{ℕ, ◌≤◌, ◌≡◌, List, leb}
use Rattle.std.proofs.Math.Path.{sym, ap}
use Rattle.std.proofs.Common.{◌∙◌, leb-true}
use Rattle.std.proofs.lemmas.Bool.{not-false}
use Rattle.matching.specs.Definitions.Nodes.{Node}
use Rattle.tables.specs.Definitions.Fields.{Bytes}
use Rattle.tables.specs.Definitions.Tables.{Accepted}
use Rattle.tables.specs.Definitions.Lists.{list_bytes}
use Rattle.tables.specs.Definitions.Edits.{master_of, edit_nodes}
use Rattle.tables.proofs.Laws.Edits.{Passes}
use Rattle.contract.specs.Definitions.Buffers.{Buffers, paired, lengths_of, Drawing, Good, drawn, buffers, master_named, nodes_named}
use Rattle.contract.specs.Definitions.Shapes.{Outcome, IsDone}
use Rattle.contract.specs.Definitions.Requests.{redrawn, edit_shape, edit}
use Rattle.contract.specs.Definitions.Undo.{edit_on, Named, back, both_on, Undone}
use Rattle.contract.proofs.Laws.Tests.{edit_right}
use Rattle.contract.proofs.Laws.Refusals.{Passed, no_refusal, edit_passes}
use Rattle.contract.proofs.Laws.Drawing.{redrawn_good}
use Rattle.contract.proofs.Laws.Lawful.{done_unrefused}
use Rattle.contract.proofs.Laws.Calls.{lawful}
use Rattle.contract.proofs.Laws.Edits.{edit_shown, edit_done}
use Rattle.contract.proofs.Laws.Undo.{Back, edit_back, passes_back, redrawn_back, links_back}
use Rattle.contract.proofs.Theorems.Claim.{first_good, first_bytes}

module _ (a b : List ℕ) (ha : Accepted a) (hb : Accepted b) (e : List ℕ) (bytes : Bytes e) (done : IsDone (edit_on e (paired a b)))
    (v : Node) (n : Named e (paired a b) v) where
  -- Before: the drawing d, of which e passes the tests.
  abbrev d : Drawing
  d = drawn (paired a b)

  good : Good d
  good = first_good a b ha hb

  passed : Passed (lengths_of (paired a b)) (edit_shape e) (paired a b)
  passed = no_refusal (lengths_of (paired a b)) (edit_shape e) (paired a b) (edit_right e) (done_unrefused (edit_shape e) (lawful (edit e)) (paired a b) done)

  passes : Passes e (nodes_named d (master_of e))
  passes = edit_passes (lengths_of (paired a b)) e (paired a b) bytes passed

  master : master_of e ≤ 1
  master = leb-true (master_of e) 1 (not-false (leb (master_of e) 1) passed.tests.1.0)

  -- Between: the drawing redrawn, of which the edit back does.
  between : (edit_on e (paired a b)).held ≡ buffers (redrawn e d)
  between = ap (λ (h : Buffers). (edit_on e h).held) (first_bytes a b ha hb) ∙ ap (λ (o : Outcome). o.held) (edit_shown d e master passes good)

  leads : Back e (back e v) (nodes_named d (master_of e)) (edit_nodes e (nodes_named d (master_of e)))
  leads = edit_back e (nodes_named d (master_of e)) (good (master_named (master_of e))) passes master v n.number n.stands

  passes' : Passes (back e v) (nodes_named (redrawn e d) (master_of (back e v)))
  passes' = passes_back d good e (back e v) passes leads

  good' : Good (redrawn e d)
  good' = redrawn_good d good e passes

  master' : master_of (back e v) ≤ 1
  master' = rw leads.master master

  -- After both.
  after : (both_on e v (paired a b)).held ≡ buffers (redrawn (back e v) (redrawn e d))
  after = ap (λ (h : Buffers). (edit_on (back e v) h).held) between ∙ ap (λ (o : Outcome). o.held) (edit_shown (redrawn e d) (back e v) master' passes' good')

  -- The edit back is done, and undoes e.
  pub undo : Undone e v (paired a b)
  unfolding buffers
  undo = record {
    done = rw between (edit_done (redrawn e d) (back e v) master' passes' good');
    list =
        ap (λ (h : Buffers). h.list) after
        ∙ ap list_bytes (links_back d good e (back e v) passes leads)
        ∙ sym (ap (λ (h : Buffers). h.list) (first_bytes a b ha hb));
    all = λ h. after ∙ ap buffers (redrawn_back d good e (back e v) passes leads h) ∙ sym (first_bytes a b ha hb);
  }
