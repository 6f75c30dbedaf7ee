-- The loop's invariant: the blocks of the range ahead of block b list nothing.
use Prim.Native.Nat.{ℕ, ◌<◌, ◌≤◌}
use Rattle.closest.specs.Blocks.{start, Block, end_of}
use Rattle.closest.proofs.chain.begin.Given as goal

abbrev pub invariant-loop-b : goal.invariant-loop-b
invariant-loop-b l = (k : ℕ) → Block l.fn.r k → k < l.b → end_of l.blocks.ends k ≤ start k
