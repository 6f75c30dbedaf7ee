-- Step: from any leading part of the join to the finished list.
use Prim.Native.Nat.{ℕ, zero, suc, ◌<◌, ◌≤◌}
use Rattle.std.specs.Prelude.{◌≡◌, length, take, replicate, Ok, None, Some}
use Rattle.std.proofs.Math.Path.{refl, ap}
use Rattle.std.proofs.Common.{◌∙◌, arith}
use mathlib.Core.List.{List, []}
use Rattle.std.proofs.Math.ListN.{length-take}
use Rattle.std.proofs.Math.Seq.{take-length}
use Rattle.matching.specs.Definitions.Lists.{All}
use Rattle.matching.specs.Definitions.Links.{Link}
use Rattle.tables.specs.Definitions.Sizes.{list_size}
use Rattle.tables.specs.Definitions.Rows.{padded}
use Rattle.tables.specs.Definitions.Tables.{nodes_in, Accepted}
use Rattle.tables.specs.Definitions.Lists.{list_bytes, finished, first_difference}
use Rattle.tables.proofs.Laws.Accepted.{nodes_good}
use Rattle.tables.specs.Laws.Lists.{GoodLink, list_length}
use Rattle.tables.specs.Laws.Compare.{same_difference}
use Rattle.contract.specs.Definitions.Buffers.{lent, paired, links_of, leading_part}
use Rattle.contract.specs.Definitions.Shapes.{Outcome, outcome}
use Rattle.contract.specs.Definitions.Requests.{stepped, step_shape}
use Rattle.contract.specs.Definitions.Refusals.{damaged_row}
use Rattle.contract.specs.Definitions.Calls.{step_call, step_times}
use Rattle.contract.proofs.Laws.Refusals.{call-done}
use Rattle.contract.proofs.Laws.Lists.{links_room, join_good}
use Rattle.contract.proofs.Laws.Places.{step_passes}
use Rattle.contract.proofs.Laws.Programs.{finished-length}
use Rattle.contract.proofs.Laws.Leading.{leading_differs, leading_zero, leading_next}

-- The list without links is the zero list.
pub zero_list : list_bytes [] ≡ replicate list_size 0
unfolding list_bytes padded
zero_list = refl

module _ (a b : List ℕ) (ha : Accepted a) (hb : Accepted b) where
  abbrev J : List Link
  J = links_of (paired a b)

  good : All GoodLink J
  good = join_good (nodes_in a) (nodes_in b) (nodes_good a ha) (nodes_good b hb)

  -- While a link is missing, Step writes the next row, and gives 1.
  pub step_next : (k : ℕ) → k < length (links_of (paired a b)) → step_call a b (leading_part a b k) ≡ outcome (Ok 1) (lent a b (leading_part a b (suc k))) []
  unfolding finished damaged_row
  step_next k h =
      let d : first_difference (leading_part a b k) (finished a b) ≡ Some k = leading_differs J good (links_room a b) k h in
      let z = leading_zero J good (links_room a b) k h in
      call-done step_shape (lent a b (leading_part a b k)) (step_passes a b (leading_part a b k) ha hb (list_length (take k J) (omega (arith, length-take k J, links_room a b))) (rw (d, z)))
      ∙ rw (d, leading_next J good (links_room a b) k h)

  -- Then it writes nothing, and gives 0.
  pub step_end : step_call a b (finished a b) ≡ outcome (Ok 0) (paired a b) []
  unfolding damaged_row
  step_end =
      let d : first_difference (finished a b) (finished a b) ≡ None = same_difference (finished a b) in
      call-done step_shape (paired a b) (step_passes a b (finished a b) ha hb (finished-length a b) (rw d)) ∙ ap (stepped (paired a b)) d

  -- From the zero list n steps write the first n links,
  pub steps_lead : (n : ℕ) → n ≤ length (links_of (paired a b)) → step_times n a b (list_bytes []) ≡ leading_part a b n
  unfolding step_times
  steps_lead zero h = refl
  steps_lead (suc n) h = ap (λ (l : List ℕ). (step_call a b l).held.list) (steps_lead n (omega arith)) ∙ ap (λ (o : Outcome). o.held.list) (step_next n h)

  -- and the first 0 comes after exactly as many steps as there are links: the steps before it give 1,
  pub steps_one : (n : ℕ) → n < length (links_of (paired a b)) → (step_call a b (step_times n a b (list_bytes []))).code ≡ 1
  steps_one n h = rw (steps_lead n (omega arith)) (ap (λ (o : Outcome). o.code) (step_next n h))

  -- and the one after them finds the finished list.
  pub steps_zero : step_call a b (step_times (length (links_of (paired a b))) a b (list_bytes [])) ≡ outcome (Ok 0) (paired a b) []
  steps_zero = ap (step_call a b) all ∙ step_end
    where
      all : step_times (length J) a b (list_bytes []) ≡ finished a b
      all = unfold finished in steps_lead (length J) (omega arith) ∙ ap list_bytes (take-length J)
