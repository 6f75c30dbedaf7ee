-- Positions inside lie so close that the distance leaves room for the tie.
use native.Mathlib.Omega.{arith}
use Prim.Native.Nat.{◌<◌}
use Rattle.std.proofs.Common.{◌≡◌, refl, ◌∙◌, ℤ, w16, to_z, of_z}
use borrow.Author.Count.{below_more}
use lib.IntN.{pos}
use lib.ListN.{get_or}
use Rattle.matching.specs.Definitions.Pairs.{squared_distance}
use Rattle.matching.specs.Definitions.Columns.{Inside, Reach}
use Rattle.matching.specs.Definitions.Rows.{across, upward, key}
use Rattle.matching.proofs.Laws.Distance.{inside_reach, distance_fits}
use Rattle.matching.proofs.Laws.Sets.{inside_back}
use Rattle.stability.proofs.Laws.Lanes.{key_split}
use Rattle.stability.proofs.blocking.count.Goals as goal
use Rattle.stability.proofs.blocking.count.Goals.{After-squared_distance-d}

-- Two positions inside, as the distance reads each from its two bytes: within reach, and as far apart as they are.
module _ (x y u v : ℤ) (p : Inside x y) (q : Inside u v) where
  read_reach : Reach (to_z w16 (of_z w16 x)) (to_z w16 (of_z w16 y)) (to_z w16 (of_z w16 u)) (to_z w16 (of_z w16 v))
  read_reach = rw (inside_back x p.0, inside_back y p.1, inside_back u q.0, inside_back v q.1) (inside_reach x y u v p q)

  read_distance : squared_distance (to_z w16 (of_z w16 x)) (to_z w16 (of_z w16 y)) (to_z w16 (of_z w16 u)) (to_z w16 (of_z w16 v)) ≡ squared_distance x y u v
  read_distance = rw (inside_back x p.0, inside_back y p.1, inside_back u q.0, inside_back v q.1) refl

pub squared_distance-d-requires : goal.squared_distance-d-requires
squared_distance-d-requires c =
    let s = c.args in
    let k = c.loop-k.k in
    read_reach (across s.p) (upward s.p) (get_or s.lanes.now.x k (pos 0)) (get_or s.lanes.now.y k (pos 0)) c.requires.0 (c.requires.1 k (omega arith))

-- The distance of the node and lane k.
apart : (c : After-squared_distance-d)
    → let s = c.args in
    let k = c.loop-k.k in
    let d = squared_distance (across s.p) (upward s.p) (get_or s.lanes.now.x k (pos 0)) (get_or s.lanes.now.y k (pos 0)) in
    (c.squared_distance-d.result ≡ d) × (d < 4294967295)
apart c =
    let s = c.args in
    let u = get_or s.lanes.now.x c.loop-k.k (pos 0) in
    let v = get_or s.lanes.now.y c.loop-k.k (pos 0) in
    let i = c.requires.1 c.loop-k.k (omega arith) in (
      c.squared_distance-d.ensures ∙ read_distance (across s.p) (upward s.p) u v c.requires.0 i,
      distance_fits (across s.p) (upward s.p) u v (inside_reach (across s.p) (upward s.p) u v c.requires.0 i),
    )

pub blocks-count-requires : goal.blocks-count-requires
blocks-count-requires c = omega (arith, apart (goal.at.blocks-count-requires c).After-squared_distance-d)

pub loop-k-preserved : goal.loop-k-preserved
loop-k-preserved c =
    let l = c.loop-k.invariant in
    let limit = c.args.l in
    let far = c.distance-far in
    let high = c.number-high in
    let e : key far.result high.result ≡ limit = rw (far.ensures, high.ensures) (key_split limit) in
    (omega arith, λ z. below_more _ _ (l.1 (omega arith)) (rw (e, (apart (goal.at.loop-k-preserved c).After-squared_distance-d).0) at (c.blocks-count.ensures.1 (omega arith))))

pub returns : goal.returns
returns c = λ z k h. c.loop-k.invariant.1 z k (omega arith)
