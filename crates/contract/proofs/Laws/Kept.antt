-- The part of the list from the first row not kept.
use Prim.Native.Nat.{ℕ, ◌*◌, ◌-◌, ◌≤◌}
use Rattle.std.specs.Prelude.{◌≡◌, take, drop}
use Rattle.std.proofs.Common.{sym, ◌∙◌, arith, take-append-drop, length-take, take_all, drop_at, length-take-le}
use Rattle.std.proofs.Math.Path.{ap}
use mathlib.Core.List.{List, ◌++◌, append_assoc}
use Rattle.std.proofs.Math.Decide.{dec_le}
use Rattle.std.proofs.Math.ListN.{length}
use Rattle.matching.specs.Definitions.Links.{Link, common}
use Rattle.tables.specs.Definitions.Sizes.{link_size, list_size}
use Rattle.tables.specs.Definitions.Rows.{flat, padded}
use Rattle.tables.specs.Definitions.Lists.{link_bytes, list_bytes}
use Rattle.tables.specs.Laws.Rows.{zeros, flat_append}
use Rattle.tables.specs.Laws.Lists.{links_length}
use Rattle.tables.proofs.Laws.ListCode.{rows_kept, common_room}

-- A list parted at row k: the rows of the first k links, those of the others, and zero rows.
module _ (K : List Link) (k : ℕ) where
  pub parted : list_bytes K ≡ flat link_bytes (take k K) ++ (flat link_bytes (drop k K) ++ zeros (list_size - link_size * length K))
  unfolding list_bytes padded
  parted =
      ap (λ (n : ℕ). flat link_bytes K ++ zeros (list_size - n)) (links_length K)
      ∙ ap (λ (f : List ℕ). f ++ Z) (ap (flat link_bytes) (sym (take-append-drop k K)) ∙ flat_append link_bytes (take k K) (drop k K))
      ∙ append_assoc (flat link_bytes (take k K)) (flat link_bytes (drop k K)) Z
    where
      Z : List ℕ
      Z = zeros (list_size - link_size * length K)

  part_size : k ≤ length K → length (flat link_bytes (take k K)) ≡ link_size * k
  part_size h = links_length (take k K) ∙ ap (λ (n : ℕ). link_size * n) (length-take-le k K h)

  -- The rows from row k on.
  drop_rows : k ≤ length K → drop (link_size * k) (list_bytes K) ≡ flat link_bytes (drop k K) ++ zeros (list_size - link_size * length K)
  drop_rows h = ap (drop (link_size * k)) parted ∙ drop_at (flat link_bytes (take k K)) (flat link_bytes (drop k K) ++ zeros (list_size - link_size * length K)) (link_size * k) (part_size h)

-- The same leading links have the same rows.
pub same_rows : (K J : List Link) (n : ℕ) → take n K ≡ take n J → take (link_size * n) (list_bytes K) ≡ take (link_size * n) (list_bytes J)
same_rows K J n e = go (dec_le n (length K))
  where
    go : Dec (n ≤ length K) → take (link_size * n) (list_bytes K) ≡ take (link_size * n) (list_bytes J)
    go (yes h) = rows_kept K J n h (omega (arith, length-take n K, length-take n J, ap length e)) e
    go (no h) = ap (λ (L : List Link). take (link_size * n) (list_bytes L))
        (sym (take_all n K (omega arith)) ∙ e ∙ take_all n J (omega (arith, length-take n K, length-take n J, ap length e)))

-- What is written anew: the new links from the first not kept on, and zero rows.
pub new_tail : (K J : List Link) → drop (link_size * common K J) (list_bytes J) ≡ flat link_bytes (drop (common K J) J) ++ zeros (list_size - link_size * length J)
new_tail K J = drop_rows J (common K J) (common_room K J).1
