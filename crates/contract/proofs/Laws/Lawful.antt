-- What a shape has to satisfy, and what follows for its calls.
use Rattle.std.specs.Prelude.{◌≤◌, ◌≡◌, Option, None, Some}
use Rattle.std.proofs.Math.Path.{refl}
use Rattle.std.proofs.Common.{ap, arith}
use Rattle.matching.specs.Definitions.Lists.{All}
use Rattle.tables.specs.Definitions.Sizes.{link_rows}
use Rattle.tables.specs.Definitions.Fields.{Bytes}
use Rattle.contract.specs.Definitions.Answers.{Answer, order, value_end, code_of}
use Rattle.contract.specs.Definitions.Buffers.{Buffers, Lengths, lengths_of, stated_lengths, Drawing, Good, buffers}
use Rattle.contract.specs.Definitions.Shapes.{OfBytes, Outcome, IsDone, turn, Shape}
use Rattle.contract.specs.Definitions.Refusals.{place, refusal, refused_or}
use Rattle.contract.specs.Definitions.Conditions.{Holds}
use Rattle.contract.specs.Definitions.Calls.{unchanged, call}
use Rattle.contract.specs.Definitions.Drawing.{played, answers, shown}
use Rattle.contract.specs.Definitions.History.{Plays, Stands}
use Rattle.contract.specs.Definitions.Claims.{Ahead}
use Rattle.contract.proofs.Laws.Order.{number_low}
use Rattle.contract.proofs.Laws.Table.{Found, first_only}
use Rattle.contract.proofs.Laws.Tests.{Right, AllTests}
use Rattle.contract.proofs.Laws.Conditions.{place_right}
use Rattle.contract.proofs.Laws.Refusals.{Passed, no_refusal, call_refused}
use Rattle.contract.proofs.Laws.Drawing.{drawn_lengths}

-- Two tables and a list of bytes, and what a call leaves.
pub record HeldBytes (h : Buffers) : Type 0 where
  pub a : Bytes h.a
  pub b : Bytes h.b
  pub list : Bytes h.list

pub record Written (o : Outcome) : Type 0 where
  pub held : HeldBytes o.held
  pub others : All Bytes o.others

-- Of every call: its own tests are their conditions; when it is done, the value is at most the rows of the list, and it leaves bytes.
pub record Lawful (x : Shape) : Type 0 where
  pub tests : AllTests Right x.tests
  pub value : (h : Buffers) → Bytes h.a → Bytes h.b → Passed (lengths_of h) x h → (x.done h).code ≤ link_rows
  pub bytes : (h : Buffers) → HeldBytes h → OfBytes x → Passed (lengths_of h) x h → Written (x.done h)

-- A refusal is the first that holds, whatever the lengths,
pub refusal_fits : (s : Lengths) (x : Shape) → Lawful x → (h : Buffers) (a : Answer) → refusal s x h ≡ Some a → Found (Holds s x h) order a
unfolding refusal
refusal_fits s x w h a e = first_only (Holds s x h) (place s x h) (place_right s x h w.tests) order a e

-- so its code is not that of a done call,
pub refusal_high : (s : Lengths) (x : Shape) → Lawful x → (h : Buffers) (a : Answer) → refusal s x h ≡ Some a → value_end ≤ code_of a
refusal_high s x w h a e = let f = refusal_fits s x w h a e in rw f.is_refused (omega (arith, number_low f.refusal))

-- and a done call is not refused.
pub done_unrefused : (x : Shape) → Lawful x → (h : Buffers) → IsDone (call x h) → refusal (lengths_of h) x h ≡ None
done_unrefused x w h k = go (refusal (lengths_of h) x h) refl
  where
    go : (o : Option Answer) → refusal (lengths_of h) x h ≡ o → o ≡ None
    go None i = refl
    go (Some a) i = absurd (omega (arith, refusal_high (lengths_of h) x w h a i, ap (λ (o : Outcome). o.code) (call_refused x h a i)))

-- A call that passes on the bytes of a drawing.
pub record Ready (x : Shape) (d : Drawing) : Type 0 where
  pub good : Good d
  pub others : OfBytes x
  pub lengths : Lengths
  pub passed : Passed lengths x (buffers d)
  pub plays : Plays x.acts

-- Of a call that may stand in a history: bytes and paper agree, the nodes stay good, and an edit leaves the rows ahead.
pub record Faithful (x : Shape) : Type 0 where
  pub same : (d : Drawing) → Ready x d → x.done (buffers d) ≡ shown (played x.acts x.others d)
  pub good : (d : Drawing) → Ready x d → Good (played x.acts x.others d).next
  pub ahead : (d : Drawing) → Ready x d → Ahead x.edits (buffers d).list (buffers (played x.acts x.others d).next).list

-- Every byte that a call leaves is below 256.
pub call_bytes : (x : Shape) → Lawful x → (h : Buffers) → HeldBytes h → OfBytes x → Written (call x h)
unfolding call
call_bytes x w h b o = go (refusal (lengths_of h) x h) refl
  where
    go : (r : Option Answer) → refusal (lengths_of h) x h ≡ r → Written (refused_or r (unchanged x h) (x.done h))
    go None n = w.bytes h b o (no_refusal (lengths_of h) x h w.tests n)
    go (Some r) n = record { held = b; others = o }

module _ (x : Shape) (w : Lawful x) (f : Faithful x) (d : Drawing) (g : Good d) (o : OfBytes x) where
  ready : (s : Lengths) → Stands (refusal s x (buffers d)) x.acts → refusal s x (buffers d) ≡ None → Ready x d
  ready s p n = record { good = g; others = o; lengths = s; passed = no_refusal s x (buffers d) w.tests n; plays = rw n at p }

  -- A call on the bytes of a drawing shows the drawing's turn,
  pub call-shown : Stands (refusal stated_lengths x (buffers d)) x.acts → call x (buffers d) ≡ shown (answers stated_lengths x d)
  unfolding call answers
  call-shown p = rw (drawn_lengths d g) (go (refusal stated_lengths x (buffers d)) refl)
    where
      go : (r : Option Answer) → refusal stated_lengths x (buffers d) ≡ r
          → refused_or r (unchanged x (buffers d)) (x.done (buffers d)) ≡ shown (refused_or r (λ a. turn a x.others d) (played x.acts x.others d))
      go None n = f.same d (ready stated_lengths p n)
      go (Some r) n = refl

  -- after which its nodes are good again,
  pub answers_good : (s : Lengths) → Stands (refusal s x (buffers d)) x.acts → Good (answers s x d).next
  unfolding answers
  answers_good s p = go (refusal s x (buffers d)) refl
    where
      go : (r : Option Answer) → refusal s x (buffers d) ≡ r → Good (refused_or r (λ a. turn a x.others d) (played x.acts x.others d)).next
      go None n = f.good d (ready s p n)
      go (Some r) n = g

  -- and, where it makes an edit and is not refused, the rows ahead are the same.
  pub answers_ahead : (s : Lengths) → Stands (refusal s x (buffers d)) x.acts → refusal s x (buffers d) ≡ None → Ahead x.edits (buffers d).list (buffers (answers s x d).next).list
  unfolding answers
  answers_ahead s p n = rw n (f.ahead d (ready s p n))
