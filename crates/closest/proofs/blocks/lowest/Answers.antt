use Prim.Native.Nat.{ℕ, ◌+◌, ◌<◌, ◌≤◌, min}
use mathlib.Core.List.{List}
use mathlib.Core.Path.{◌≡◌}
use native.Mathlib.Decide.{ℕ_discrete}
use native.Mathlib.Omega.{arith}
use lib.ListN.{get_or}
use Rattle.matching.specs.Definitions.Sizes.{number_range}
use Rattle.closest.specs.Blocks.{Least, number_of}
use Rattle.closest.proofs.blocks.lowest.Goals as goal

first_least : (ns : List ℕ) (first q : ℕ) → q ≡ first → get_or ns first 0 < number_range → (get_or ns first 0 ≤ get_or ns q 0) × (get_or ns q 0 < number_range)
first_least ns first q e h = rw e (omega arith, h)

least_on : (ns : List ℕ) (first k n r : ℕ) → Least (number_of ns) first k n → get_or ns k 0 < number_range → r ≡ min n (get_or ns k 0) → Least (number_of ns) first (k + 1) r
least_on ns first k n r l h e q a b = go (ℕ_discrete q k)
  where
    go : Dec (q ≡ k) → (r ≤ get_or ns q 0) × (get_or ns q 0 < number_range)
    go (yes d) = rw d (omega arith, h)
    go (no d) = (omega (arith, (l q a (omega arith)).0), (l q a (omega arith)).1)

pub loop-k-init : goal.loop-k-init
loop-k-init c = λ q a b. first_least c.args.ns.now c.args.first q (omega arith) (omega (arith, c.type_inv.ns c.args.first))

pub loop-k-preserved : goal.loop-k-preserved
loop-k-preserved c = let l = c.loop-k in least_on c.args.ns.now c.args.first l.k l.n _ l.invariant (omega (arith, c.type_inv.ns l.k)) c.min-n.ensures

pub returns : goal.returns
returns c = let l = c.loop-k in λ q a b. l.invariant q a (omega (arith, l.auto.k-end))
