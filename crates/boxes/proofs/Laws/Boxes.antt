-- Laws of boxes, each from those of its two axes. Assumes nothing.
use Prim.Native.Nat.{ℕ, ◌+◌, ◌≤◌, ◌<◌}
use mathlib.Core.Path.{◌≡◌}
use mathlib.Core.List.{List, [], ◌∷◌}
use native.Mathlib.Decide.{ℕ_discrete}
use native.Mathlib.Nat.{mul-le-mul}
use native.Mathlib.Omega.{arith}
use lib.IntN.{ℤ}
use lib.ListN.{get_or}
use Rattle.matching.specs.Definitions.Pairs.{squared_distance}
use Rattle.matching.specs.Definitions.Columns.{edge, Inside}
use Rattle.matching.specs.Definitions.Rows.{across, upward, x_at, y_at}
use Rattle.matching.proofs.Laws.Distance.{inside_reach, distance_fits}
use Rattle.boxes.specs.Boxes.{west, east, south, north, In, Inner, Around, Clear, Gap, Clamped, Nearest, Grown}
use Rattle.std.specs.Int.{int_min, int_max}
use Rattle.boxes.proofs.Laws.Places.{le_then, least, greatest, min_small, max_small, between_near, reaches}

-- Clamped along each axis is nearest.
pub nearest : (p b : List ℤ) (x y : ℤ) → Clamped (across p) (west b) (east b) x → Clamped (upward p) (south b) (north b) y → Nearest p b (x ∷ y ∷ [])
nearest p b x y h k = record {
  inside = λ i n. (h.small edge i.0 n.0.0 n.1.0, k.small edge i.1 n.0.1 n.1.1);
  between = λ u v i. (h.between u i.west i.east, k.between v i.south i.north);
}

-- The position nearest to p is as far from it as the box.
pub clear :
    (p b q : List ℤ) (d : ℕ) → Inside (across p) (upward p) → Inner b → Nearest p b q →
    d ≡ squared_distance (across p) (upward p) (across q) (upward q) →
    Clear p b d
clear p b q d h k m e = record {
  small = rw e (distance_fits (across p) (upward p) (across q) (upward q) (inside_reach (across p) (upward p) (across q) (upward q) h (m.inside h k)));
  nearest = λ u v i.
      let x = (between_near _ _ _ (m.between u v i).0).0 in
      let y = (between_near _ _ _ (m.between u v i).1).0 in
      rw e (omega (arith, mul-le-mul x x, mul-le-mul y y));
}

-- As far is one box from the position in the other that is nearest to its south-west corner.
pub apart : (b c q : List ℤ) (d : ℕ) → Nearest (west c ∷ south c ∷ []) b q → Clear q c d → Gap b c d
apart b c q d m k = record {
  small = k.small;
  nearest = λ x y u v i j.
      let f = reaches (west c) (across q) (east c) x u (m.between x y i).0 j.west j.east in
      let g = reaches (south c) (upward q) (north c) y v (m.between x y i).1 j.south j.north in
      let n : In c f.at g.at = record { west = f.from; east = f.to; south = g.from; north = g.to } in
      omega (arith, k.nearest f.at g.at n, mul-le-mul f.away f.away, mul-le-mul g.away g.away);
}

-- A box grows by each of its edges.
pub grown :
    (b p : List ℤ) →
    Grown b p (int_min (west b) (across p) ∷ int_max (east b) (across p) ∷ int_min (south b) (upward p) ∷ int_max (north b) (upward p) ∷ [])
grown b p =
    let w = least (west b) (across p) in
    let e = greatest (east b) (across p) in
    let s = least (south b) (upward p) in
    let n = greatest (north b) (upward p) in
    record {
      inner = λ i k. (
        (min_small (west b) (across p) edge i.0.0 k.0, min_small (south b) (upward p) edge i.0.1 k.1),
        (max_small (east b) (across p) edge i.1.0 k.0, max_small (north b) (upward p) edge i.1.1 k.1),
      );
      holds = λ u v i. record {
        west = le_then _ _ _ w.0 i.west;
        east = le_then _ _ _ i.east e.0;
        south = le_then _ _ _ s.0 i.south;
        north = le_then _ _ _ i.north n.0;
      };
      here = record { west = w.1; east = e.1; south = s.1; north = n.1 };
    }

-- The box around one row more.
module _ (at : List (List ℤ)) (k : ℕ) (h : Inside (x_at at k) (y_at at k)) where
  pub around_more : (first : ℕ) (b r : List ℤ) → Around at first k b → Grown b (get_or at k []) r → Around at first (k + 1) r
  around_more first b r a g = record { inner = g.inner a.inner h; holds = λ i l m. go i l m (ℕ_discrete i k) }
    where
      go : (i : ℕ) → first ≤ i → i < k + 1 → Dec (i ≡ k) → In r (x_at at i) (y_at at i)
      go i l m (yes e) = rw e g.here
      go i l m (no e) = g.holds _ _ (a.holds i l (omega arith))
