-- Each refusal number by its own condition: the laws that do not mention the table of places.
use Rattle.std.specs.Prelude.{ℕ, ◌+◌, ◌*◌, ◌/◌, ◌%◌, ◌<◌, ◌≤◌, ◌≡◌, refl, [], ◌∷◌, map, Option, None, Some}
use Rattle.std.proofs.Common.{◌∙◌, arith}
use Rattle.std.proofs.Math.Path.{ap}
use Rattle.tables.specs.Definitions.Sizes.{link_rows}
use Rattle.tables.specs.Definitions.Fields.{Bytes}
use Rattle.contract.specs.Definitions.Answers.{Answer, refused, refusal_number, order, value_end, code_of}
use Rattle.contract.specs.declared.Refusal.{Refusal}
use Rattle.contract.specs.Definitions.Buffers.{Buffers, Lengths, lengths_of}
use Rattle.contract.specs.Definitions.Shapes.{Outcome, IsDone, Shape}
use Rattle.contract.specs.Definitions.Requests.{Request, shape}
use Rattle.contract.specs.Definitions.Refusals.{place, refusal}
use Rattle.contract.specs.Definitions.Conditions.{Holds, NumberFits}
use Rattle.contract.specs.Definitions.Calls.{call}
use Rattle.contract.proofs.Laws.Order.{placed, number_high}
use Rattle.contract.proofs.Laws.Table.{first_holds, first_when, none_holds}
use Rattle.contract.proofs.Laws.Conditions.{place_right, value_low}
use Rattle.contract.proofs.Laws.Refusals.{no_refusal, call_refused, call-done}
use Rattle.contract.proofs.Laws.Lawful.{refusal_fits, done_unrefused}
use Rattle.contract.proofs.Laws.Calls.{lawful}

-- Document 01's places, top to bottom, by their numbers.
pub order_numbers : map refusal_number order ≡ 1 ∷ 2 ∷ 3 ∷ 4 ∷ 5 ∷ 6 ∷ 7 ∷ 8 ∷ 9 ∷ 10 ∷ []
order_numbers = refl

module _ (q : Request) (h : Buffers) where
  abbrev x : Shape
  x = shape q

  abbrev s : Lengths
  s = lengths_of h

  -- A refused call gives the number and value of the first condition that holds.
  given : (a : Answer) → refusal s x h ≡ Some a → NumberFits s x h ((call x h).code / value_end) ((call x h).code % value_end)
  given a e =
      let f = refusal_fits s x (lawful q) h a e in
      let l = value_low (first_holds order f.first) in
      let c = ap (λ (o : Outcome). o.code) (call_refused x h a e) ∙ ap code_of f.is_refused in
      let n : refusal_number f.refusal ≡ (call x h).code / value_end = omega (arith, c, l) in
      let v : f.value ≡ (call x h).code % value_end = omega (arith, c, l) in
      record { refusal = f.refusal; is_number = n; fits = rw (← v) f.first }

  -- The call gives the number n with the value v when they fit,
  pub number_when : (n v : ℕ) → NumberFits s x h n v → (call x h).code ≡ n * value_end + v
  unfolding refusal
  number_when n v f =
      ap (λ (o : Outcome). o.code) (call_refused x h (refused f.refusal v) (first_when (Holds s x h) (place s x h) (place_right s x h (lawful q).tests) f.refusal v order f.fits))
      ∙ rw f.is_number

  module _ (ba : Bytes h.a) (bb : Bytes h.b) where
    -- A done call gives its value, which is low.
    done_value : refusal s x h ≡ None → (call x h).code ≤ link_rows
    done_value n = omega (arith, ap (λ (o : Outcome). o.code) (call-done x h n), (lawful q).value h ba bb (no_refusal s x h (lawful q).tests n))

    -- and only then.
    pub number_only : (n v : ℕ) → 1 ≤ n → v < value_end → (call x h).code ≡ n * value_end + v → NumberFits s x h n v
    number_only n v k l e = go (refusal s x h) refl
      where
        go : (o : Option Answer) → refusal s x h ≡ o → NumberFits s x h n v
        go None i = absurd (omega (arith, done_value i))
        go (Some a) i =
            let m : n ≡ (call x h).code / value_end = omega arith in
            let u : v ≡ (call x h).code % value_end = omega arith in
            rw (m, u) (given a i)

    -- It is done exactly where no condition holds,
    pub done_only : IsDone (call x h) → (r : Refusal) (v : ℕ) → ¬ Holds s x h r v
    unfolding refusal
    done_only k r v = none_holds (Holds s x h) (place s x h) (place_right s x h (lawful q).tests) order (done_unrefused x (lawful q) h k) r (placed r) v

    pub done_when : ((r : Refusal) (v : ℕ) → ¬ Holds s x h r v) → call x h ≡ x.done h
    done_when k = go (refusal s x h) refl
      where
        go : (o : Option Answer) → refusal s x h ≡ o → call x h ≡ x.done h
        go None i = call-done x h i
        go (Some a) i = let f = refusal_fits s x (lawful q) h a i in absurd (k f.refusal f.value (first_holds order f.first))

    -- A call that is not done leaves every lent byte as it was.
    pub refused_unchanged : value_end ≤ (call x h).code → call x h ≡ record { code = (call x h).code; held = h; others = x.others }
    refused_unchanged k = go (refusal s x h) refl
      where
        go : (o : Option Answer) → refusal s x h ≡ o → call x h ≡ record { code = (call x h).code; held = h; others = x.others }
        go None i = absurd (omega (arith, done_value i))
        go (Some a) i = rw (call_refused x h a i)

    -- Number and value are read off the code: at most 10, and at most the rows of the list.
    pub number_read : (call x h).code / value_end ≤ 10
    number_read = go (refusal s x h) refl
      where
        go : (o : Option Answer) → refusal s x h ≡ o → (call x h).code / value_end ≤ 10
        go None i = omega (arith, done_value i)
        go (Some a) i = let g = given a i in omega (arith, g.is_number, number_high g.refusal)

    pub value_read : (call x h).code % value_end ≤ link_rows
    value_read = go (refusal s x h) refl
      where
        go : (o : Option Answer) → refusal s x h ≡ o → (call x h).code % value_end ≤ link_rows
        go None i = omega (arith, done_value i)
        go (Some a) i = value_low (first_holds order (given a i).fits)
