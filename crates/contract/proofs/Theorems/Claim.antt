-- THE CLAIM of demand 3: whatever the history, the answers and the bytes are those of the paper drawing.
use Rattle.std.specs.Prelude.{ℕ, ◌<◌, ◌≡◌, Bool, true, false, List, [], ◌∷◌, Option, None, Some}
use Rattle.std.proofs.Math.Path.{refl, ap}
use Rattle.std.proofs.Common.{sym, ◌∙◌, subst, arith}
use Rattle.matching.specs.Definitions.Lists.{All}
use Rattle.matching.specs.declared.Master.TheVariants.{A as master_a, B as master_b}
use Rattle.matching.proofs.Theorems.Amounts.{join_within, join_unblocked, join_unique}
use Rattle.tables.specs.Definitions.Sizes.{table_size, list_size}
use Rattle.tables.specs.Definitions.Tables.{table_bytes, Accepted}
use Rattle.tables.specs.Definitions.Lists.{list_bytes, finished}
use Rattle.tables.proofs.Laws.Tables.{table_length}
use Rattle.tables.proofs.Laws.Accepted.{nodes_table, nodes_good}
use Rattle.tables.specs.Laws.Lists.{list_length, list_links}
use Rattle.contract.specs.Definitions.Answers.{Answer, value_end}
use Rattle.contract.specs.Definitions.Buffers.{lent, paired, Lengths, lengths_of, stated_lengths, Drawing, Good, links, drawn, buffers}
use Rattle.contract.specs.Definitions.Shapes.{OfBytes, Outcome, turn, Shape}
use Rattle.contract.specs.Definitions.Requests.{Request, pair, step, edit, spare, bands, shape}
use Rattle.contract.specs.Definitions.Refusals.{lengths_right, refusal, refused_or}
use Rattle.contract.specs.Definitions.Calls.{call}
use Rattle.contract.specs.Definitions.Drawing.{played, answers, shown}
use Rattle.contract.specs.Definitions.History.{lend, Call, Plays, Stands, History, call_on, run, fed_lengths, on_paper, paper, held_after, drawn_after}
use Rattle.contract.specs.Definitions.Claims.{HeldAmounts, Ahead, EditAhead, AtEveryMoment, AtEachCall, Claim}
use Rattle.contract.proofs.Laws.Conditions.{stated}
use Rattle.contract.proofs.Laws.Refusals.{wrong_lengths}
use Rattle.contract.proofs.Laws.Lists.{join_good}
use Rattle.contract.proofs.Laws.Drawing.{drawn_room, drawn_nodes}
use Rattle.contract.proofs.Laws.Lent.{lent_length_lem, lent_whole, returned_whole, returned_lent}
use Rattle.contract.proofs.Laws.Lawful.{refusal_high, call-shown, answers_good, answers_ahead}
use Rattle.contract.proofs.Laws.Calls.{lawful, faithful}

-- A call on the bytes of a drawing, however they are lent:
module _ (d : Drawing) (g : Good d) (c : Call) (o : OfBytes (shape c.request)) (p : Stands (refusal (fed_lengths c) (shape c.request) (buffers d)) (shape c.request).acts) where
  abbrev x : Shape
  x = shape c.request

  abbrev a : List ℕ
  a = table_bytes d.a

  abbrev b : List ℕ
  b = table_bytes d.b

  abbrev l : List ℕ
  l = list_bytes (links d)

  fed : lengths_of (lent (lend c.a a) (lend c.b b) (lend c.list l)) ≡ fed_lengths c
  fed = λ i. record {
    a = lent_length_lem c.a a table_size (table_length d.a (g master_a).room) i;
    b = lent_length_lem c.b b table_size (table_length d.b (g master_b).room) i;
    list = lent_length_lem c.list l list_size (list_length (links d) (drawn_room d g)) i;
  }

  -- at a wrong length it is refused, and all bytes stay;
  call_wrong : lengths_right (fed_lengths c) x ≡ false → call_on c (buffers d) ≡ shown (on_paper c d)
  unfolding call_on on_paper call answers buffers
  call_wrong e =
      rw (
        fed,
        wrong_lengths (fed_lengths c) x (lent (lend c.a a) (lend c.b b) (lend c.list l)) e,
        wrong_lengths (fed_lengths c) x (lent a b l) e,
        returned_lent c.a a,
        returned_lent c.b b,
        returned_lent c.list l,
      )

  good_next : Good (on_paper c d).next
  unfolding on_paper
  good_next = answers_good x (lawful c.request) (faithful c.request) d g o (fed_lengths c) p

  -- at the stated lengths the buffers are lent whole.
  call_right : lengths_right (fed_lengths c) x ≡ true → call_on c (buffers d) ≡ shown (on_paper c d)
  unfolding call_on on_paper buffers
  call_right e =
      let s = stated (fed_lengths c) x e in
      let right : fed_lengths c ≡ stated_lengths = λ i. record { a = s.a i; b = s.b i; list = s.list i } in
      let next : Drawing = (answers (fed_lengths c) x d).next in
      let ha = table_length d.a (g master_a).room in
      let hb = table_length d.b (g master_b).room in
      let hl = list_length (links d) (drawn_room d g) in
      let same : call x (lent a b l) ≡ shown (answers (fed_lengths c) x d) =
      call-shown x (lawful c.request) (faithful c.request) d g o (subst (λ (s : Lengths). Stands (refusal s x (buffers d)) x.acts) right p) ∙ ap (λ (s : Lengths). shown (answers s x d)) (sym right) in
      rw (
        lent_whole c.a a table_size ha s.a,
        lent_whole c.b b table_size hb s.b,
        lent_whole c.list l list_size hl s.list,
        same,
        returned_whole c.a a (table_bytes next.a) table_size ha s.a (table_length next.a (good_next master_a).room),
        returned_whole c.b b (table_bytes next.b) table_size hb s.b (table_length next.b (good_next master_b).room),
        returned_whole c.list l (list_bytes (links next)) list_size hl s.list (list_length (links next) (drawn_room next good_next)),
      )

  call_on_lem : call_on c (buffers d) ≡ shown (on_paper c d)
  call_on_lem = go (lengths_right (fed_lengths c) x) refl
    where
      go : (t : Bool) → lengths_right (fed_lengths c) x ≡ t → call_on c (buffers d) ≡ shown (on_paper c d)
      go true e = call_right e
      go false e = call_wrong e

  -- A done edit leaves the rows ahead.
  call_ahead : EditAhead c.request (shown (on_paper c d)) (buffers d)
  unfolding on_paper
  call_ahead = go (refusal (fed_lengths c) x (buffers d)) refl
    where
      code : (r : Option Answer) → refusal (fed_lengths c) x (buffers d) ≡ r → (answers (fed_lengths c) x d).code ≡ (refused_or r (λ a. turn a x.others d) (played x.acts x.others d)).code
      code r e = unfold answers in rw e

      go : (r : Option Answer) → refusal (fed_lengths c) x (buffers d) ≡ r → (answers (fed_lengths c) x d).code < value_end → Ahead x.edits (buffers d).list (buffers (answers (fed_lengths c) x d).next).list
      go None e k = answers_ahead x (lawful c.request) (faithful c.request) d g o (fed_lengths c) p e
      go (Some r) e k = absurd (omega (arith, refusal_high (fed_lengths c) x (lawful c.request) (buffers d) r e, code (Some r) e))

run-paper : (cs : List Call) (d : Drawing) → History cs d → Good d → run cs (buffers d) ≡ paper cs d
unfolding run paper
run-paper [] d hs g = refl
run-paper (c ∷ cs) d hs g = rw (call_on_lem d g c hs.0 hs.1.0) (ap (λ (os : List Outcome). shown (on_paper c d) ∷ os) (run-paper cs (on_paper c d).next hs.1.1 (good_next d g c hs.0 hs.1.0)))

held_paper : (cs : List Call) (d : Drawing) → History cs d → Good d → held_after cs (buffers d) ≡ buffers (drawn_after cs d)
unfolding held_after drawn_after
held_paper [] d hs g = refl
held_paper (c ∷ cs) d hs g = rw (call_on_lem d g c hs.0 hs.1.0) (held_paper cs (on_paper c d).next hs.1.1 (good_next d g c hs.0 hs.1.0))

pub drawn_good : (cs : List Call) (d : Drawing) → History cs d → Good d → Good (drawn_after cs d)
unfolding drawn_after
drawn_good [] d hs g = g
drawn_good (c ∷ cs) d hs g = drawn_good cs (on_paper c d).next hs.1.1 (good_next d g c hs.0 hs.1.0)

-- The amounts of the join are the only ones.
only_amounts : (d : Drawing) → Good d → HeldAmounts (buffers d)
unfolding buffers
only_amounts d g = rw (drawn_nodes d g master_a, drawn_nodes d g master_b, list_links (links d) (join_good d.a d.b (g master_a) (g master_b)) (drawn_room d g)) (record {
  within = join_within d.a d.b (g master_a).unique (g master_b).unique;
  unblocked = join_unblocked d.a d.b (g master_a).unique (g master_b).unique;
  no_other = join_unique d.a d.b (g master_a).unique (g master_b).unique;
})

all_amounts : (cs : List Call) (d : Drawing) → History cs d → Good d → AtEveryMoment HeldAmounts cs (buffers d)
all_amounts [] d hs g = only_amounts d g
all_amounts (c ∷ cs) d hs g = rw (call_on_lem d g c hs.0 hs.1.0) (only_amounts d g, all_amounts cs (on_paper c d).next hs.1.1 (good_next d g c hs.0 hs.1.0))

all_ahead : (cs : List Call) (d : Drawing) → History cs d → Good d → AtEachCall EditAhead cs (buffers d)
all_ahead [] d hs g = tt
all_ahead (c ∷ cs) d hs g = rw (call_on_lem d g c hs.0 hs.1.0) (call_ahead d g c hs.0 hs.1.0, all_ahead cs (on_paper c d).next hs.1.1 (good_next d g c hs.0 hs.1.0))

-- Every list of document 01's calls, with further buffers of bytes, is a history.
plays : (q : Request) → Plays (shape q).acts
plays pair = tt
plays step = tt
plays (edit e) = tt
plays (spare m n) = tt
plays (bands c) = tt

pub all_stand : (cs : List Call) → All (λ c. OfBytes (shape c.request)) cs → (d : Drawing) → History cs d
all_stand [] hs d = tt
all_stand (c ∷ cs) hs d = (hs.0, (go (refusal (fed_lengths c) (shape c.request) (buffers d)), all_stand cs hs.1 (on_paper c d).next))
  where
    go : (r : Option Answer) → Stands r (shape c.request).acts
    go None = plays c.request
    go (Some r) = tt

module _ (a b : List ℕ) (ha : Accepted a) (hb : Accepted b) where
  pub first_good : Good (drawn (paired a b))
  first_good master_a = nodes_good a ha
  first_good master_b = nodes_good b hb

  pub first_bytes : paired a b ≡ buffers (drawn (paired a b))
  unfolding buffers finished
  first_bytes = λ i. record { a = nodes_table a ha i; b = nodes_table b hb i; list = list_bytes (links (drawn (paired a b))) }

  -- THE CLAIM holds of every history from two accepted tables and their finished list.
  pub claim : (cs : List Call) → History cs (drawn (paired a b)) → Claim a b cs
  claim cs hs = record {
    begins = first_bytes;
    goes_on = rw first_bytes (run-paper cs (drawn (paired a b)) hs first_good);
    amounts = rw first_bytes (all_amounts cs (drawn (paired a b)) hs first_good);
    ahead = rw first_bytes (all_ahead cs (drawn (paired a b)) hs first_good);
  }

  -- What is held when it ends is the paper drawing then.
  pub claim_end : (cs : List Call) → History cs (drawn (paired a b)) → held_after cs (paired a b) ≡ buffers (drawn_after cs (drawn (paired a b)))
  claim_end cs hs = rw first_bytes (held_paper cs (drawn (paired a b)) hs first_good)
