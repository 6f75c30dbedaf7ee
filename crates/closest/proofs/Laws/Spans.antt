-- Either master's rows. Assumes nothing.
use Prim.Native.Nat.{ℕ, ◌/◌, ◌<◌, ◌≤◌}
use mathlib.Core.Path.{◌≡◌, refl}
use mathlib.Core.List.{List}
use native.Mathlib.Omega.{arith}
use lib.IntN.{ℤ}
use lib.ListN.{length}
use Rattle.std.specs.Int.{div_ceil}
use Rattle.std.proofs.lemmas.Grind.{div_ceil_times}
use Rattle.matching.specs.declared.Range.{Range}
use Rattle.matching.specs.declared.Spans.{Spans}
use Rattle.matching.specs.declared.Master.{Master}
use Rattle.matching.specs.declared.Master.TheVariants.{A as master_a, B as master_b}
use Rattle.matching.specs.Definitions.Sizes.{set_rows, block_rows}
use Rattle.matching.specs.Definitions.Rows.{range, On, Spanned, Fit}
use Rattle.closest.specs.Rows.{Rows, Held}
use Rattle.closest.specs.Blocks.{start, stop, Block, Aligned}

-- What rows have left does not matter to how they fit.
pub fit_again : {ns : List ℕ} {at : List (List ℤ)} {left : List ℕ} {s : Spans} → Fit ns at left s → (less : List ℕ) → length less ≡ set_rows → Fit ns at less s
fit_again v less e = record { numbers = v.numbers; positions = v.positions; capacities = e; spans = v.spans; inside = v.inside; distinct = v.distinct }

-- The blocks of a range: from the one that it begins with to its end, rounded up.
module _ {r : Range} (u : Aligned r) {end : ℕ} (is : end ≡ div_ceil r.to block_rows) {b : ℕ} where
  pub counted : r.from / block_rows ≤ b → b < end → Block r b
  counted h l = (omega (arith, u.begins), omega (arith, is, div_ceil_times r.to block_rows (omega arith)))

  pub counted_out : end ≤ b → r.to ≤ start b
  counted_out h = omega (arith, is, div_ceil_times r.to block_rows (omega arith))

module _ {s : Spans} (v : Spanned s) where
  pub aligned : (m : Master) → Aligned (range s m)
  aligned master_a = record { begins = v.block_a; order = v.order_a; room = omega (arith, v.below) }
  aligned master_b = record { begins = v.block_b; order = v.order_b; room = v.end }

  -- A row's block has it.
  pub in_block : (m : Master) (r : ℕ) → On s m r → Block (range s m) (r / block_rows) × (start (r / block_rows) ≤ r) × (r < stop (range s m) (r / block_rows))
  in_block m r h = ((omega (arith, (aligned m).begins), omega arith), omega arith, omega arith)

  -- Blocks that share a row are the same, and of one master.
  pub one_master : (m o : Master) (b : ℕ) → Block (range s m) b → Block (range s o) b → m ≡ o
  one_master master_a master_a b h g = refl
  one_master master_a master_b b h g = absurd (omega (arith, v.below, v.above))
  one_master master_b master_a b h g = absurd (omega (arith, v.below, v.above))
  one_master master_b master_b b h g = refl

-- A master's row is one of the rows.
pub held : (R : Rows) → Spanned R.spans → {k : ℕ} (m : Master) → On R.spans m k → Held R k
held R v m h = record { master = m; on = h; low = omega (arith, (aligned v m).room) }
