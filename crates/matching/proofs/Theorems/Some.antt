-- Where both masters have a node of a sort there is a link.
use Rattle.std.specs.Prelude.{◌≤◌, ◌≡◌, refl, length}
use mathlib.Core.List.{List, [], ◌∷◌, Memᴰ}
use Rattle.std.proofs.Common.{arith}
use Rattle.matching.specs.Definitions.Lists.{All}
use Rattle.matching.specs.Definitions.Nodes.{Node, Unique}
use Rattle.matching.specs.Definitions.Pairs.{Pair, pair}
use Rattle.matching.specs.Definitions.Links.{Link}
use Rattle.matching.specs.Definitions.Join.{Left, capacities, lesser, join}
use Rattle.matching.proofs.Laws.Lists.{all_at}
use Rattle.matching.proofs.Laws.Sums.{capacity_at, all_nodes}
use Rattle.matching.proofs.Laws.Steps.{after}
use Rattle.matching.proofs.Theorems.Join.{join_exhausted}

-- Else the two would both have something left.
pub join_some : (A B : List Node) → Unique A → Unique B → {v w : Node} → Memᴰ v A → Memᴰ w B → v.sort ≡ w.sort
    → 1 ≤ v.capacity → 1 ≤ w.capacity → 1 ≤ length (join A B)
unfolding after
join_some A B ua ub {v} {w} i j s c d = go (join A B) refl
  where
    end : Left
    end = after (join A B) (capacities A B)

    spent : lesser end (pair v w) ≡ 0
    spent = all_at (λ w. v.sort ≡ w.sort → lesser end (pair v w) ≡ 0)
        (all_at (λ v. All (λ w. v.sort ≡ w.sort → lesser end (pair v w) ≡ 0) B) (all_nodes (λ (p : Pair). lesser end p ≡ 0) A B (join_exhausted A B)) i) j s

    left : 1 ≤ lesser (capacities A B) (pair v w)
    left = unfold lesser capacities pair in rw (capacity_at i ua, capacity_at j ub) (omega arith)

    go : (K : List Link) → join A B ≡ K → 1 ≤ length K
    go [] e = absurd (omega (arith, left, rw e at spent))
    go (l ∷ K) e = omega arith
