-- No more blocks are looked through than have been passed, and one.
use Prim.Native.Nat.{◌+◌, ◌≤◌}
use Rattle.repair.proofs.nearest.Search.run.Given as goal

abbrev pub invariant-loop-b : goal.invariant-loop-b
invariant-loop-b l = l.f.1.0 ≤ l.b + 1
