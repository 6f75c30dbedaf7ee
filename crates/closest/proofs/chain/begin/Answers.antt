use Prim.Native.Nat.{ℕ, ◌+◌, ◌<◌, ◌≤◌}
use mathlib.Core.List.{List}
use mathlib.Core.Path.{◌≡◌}
use native.Mathlib.Decide.{ℕ_discrete}
use native.Mathlib.Omega.{arith}
use Rattle.matching.specs.declared.Range.{Range}
use Rattle.closest.specs.Blocks.{start, Block, end_of}
use Rattle.closest.proofs.Laws.Spans.{counted_out}
use Rattle.closest.proofs.chain.begin.Goals as goal

none-on : (E : List (List ℕ)) (r : Range) (b : ℕ) → ((k : ℕ) → Block r k → k < b → end_of E k ≤ start k) → end_of E b ≤ start b → (k : ℕ) → Block r k → k < b + 1 → end_of E k ≤ start k
none-on E r b f g k h l = go (ℕ_discrete k b)
  where
    go : Dec (k ≡ b) → end_of E k ≤ start k
    go (yes d) = rw d g
    go (no d) = f k h (omega arith)

pub loop-b-init : goal.loop-b-init
loop-b-init c = λ k h l. absurd (omega (arith, c.requires.0.begins))

pub loop-b-preserved : goal.loop-b-preserved
loop-b-preserved c = none-on c.args.blocks.now.ends c.args.r c.loop-b.b c.loop-b.invariant c.if-first-blocks.false

pub returns : goal.returns
returns c = λ k h. c.loop-b.invariant k h (omega (arith, counted_out c.requires.0 c.div_ceil-b-end.ensures c.loop-b-test.false))
