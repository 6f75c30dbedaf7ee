-- The values of done calls are low, and what a program writes are bytes.
use Rattle.std.specs.Prelude.{ℕ, zero, suc, ◌+◌, ◌*◌, ◌<◌, ◌≤◌, ◌≡◌, refl, List, [], ◌∷◌, ◌++◌, length, take, drop}
use Rattle.std.proofs.Common.{◌∙◌, arith, length-append}
use Rattle.matching.specs.declared.Master.{Master}
use Rattle.matching.specs.declared.Master.TheVariants.{A as master_a, B as master_b}
use Rattle.matching.specs.Definitions.Links.{Link}
use Rattle.matching.specs.Definitions.Join.{capacities}
use Rattle.matching.specs.Definitions.Join as theory
use Rattle.matching.proofs.Laws.Lists.{all_append}
use Rattle.tables.specs.Definitions.Sizes.{most, count_size, counts_size, band_count}
use Rattle.tables.specs.Definitions.Fields.{Bytes, nat_bytes}
use Rattle.tables.specs.Definitions.Rows.{put}
use Rattle.tables.specs.Definitions.Tables.{nodes_in, Accepted}
use Rattle.tables.specs.Definitions.Bands.{band, bands_from, band_bytes}
use Rattle.tables.specs.Laws.Fields.{nat_bytes_lem, nat_length, bytes_drop}
use Rattle.tables.proofs.Laws.Accepted.{nodes_good}
use Rattle.contract.proofs.Laws.Lists.{capacity_low}

-- What is to spare is within a capacity.
pub spare_low : (a b : List ℕ) → Accepted a → Accepted b → (s : Master) (n : ℕ) → theory.spare s (nodes_in a) (nodes_in b) n ≤ most
unfolding theory.spare capacities
spare_low a b ha hb master_a n = omega (arith, capacity_low (nodes_in a) (nodes_good a ha).good n)
spare_low a b ha hb master_b n = omega (arith, capacity_low (nodes_in b) (nodes_good b hb).good n)

-- The counts are so many bytes.
bands_size : (K : List Link) (k n : ℕ) → length (bands_from K k n) ≡ count_size * n
unfolding bands_from
bands_size K k zero = refl
bands_size K k (suc n) =
    let r = bands_size K (suc k) n in
    length-append (nat_bytes count_size (band K k)) (bands_from K (suc k) n) ∙ omega (arith, nat_length count_size (band K k))

bands_are : (K : List Link) (k n : ℕ) → Bytes (bands_from K k n)
unfolding bands_from
bands_are K k zero = tt
bands_are K k (suc n) = all_append (λ x. x < 256) (nat_bytes count_size (band K k)) (bands_from K (suc k) n) (nat_bytes_lem count_size (band K k)) (bands_are K (suc k) n)

pub counts_size_lem : (K : List Link) → length (band_bytes K) ≡ counts_size
unfolding band_bytes
counts_size_lem K = bands_size K 0 band_count

pub counts_bytes : (K : List Link) → Bytes (band_bytes K)
unfolding band_bytes
counts_bytes K = bands_are K 0 band_count

-- Bytes put among bytes.
pub bytes_take : (n : ℕ) (xs : List ℕ) → Bytes xs → Bytes (take n xs)
bytes_take zero xs h = tt
bytes_take (suc n) [] h = tt
bytes_take (suc n) (x ∷ xs) h = (h.0, bytes_take n xs h.1)

pub put_bytes : (xs : List ℕ) (i : ℕ) (vs : List ℕ) → Bytes xs → Bytes vs → Bytes (put xs i vs)
unfolding put
put_bytes xs i vs h g =
    all_append (λ x. x < 256) (take i xs) (vs ++ drop (i + length vs) xs) (bytes_take i xs h)
    (all_append (λ x. x < 256) vs (drop (i + length vs) xs) g (bytes_drop (i + length vs) xs h))
