-- The counts of links in bands are those of their distances.
use Rattle.std.specs.Prelude.{ℕ, zero, suc, ◌+◌, ◌≡◌, refl, cond, List, [], ◌∷◌, ◌++◌, eqb, length}
use Rattle.std.proofs.Common.{ap}
use Rattle.std.proofs.lemmas.List.{length-map}
use Rattle.matching.specs.Definitions.Lists.{sum_over}
use Rattle.matching.specs.Definitions.Links.{Link}
use Rattle.matching.specs.Definitions.Columns.{tabulate}
use Rattle.tables.specs.Definitions.Sizes.{count_size, band_count}
use Rattle.tables.specs.Definitions.Fields.{nat_bytes}
use Rattle.tables.specs.Definitions.Rows.{flat}
use Rattle.tables.specs.Definitions.Bands.{binary_digits, band, bands_from, band_bytes}
use Rattle.tables.specs.Laws.Bands.{band_in, band_counts}
use Rattle.lists.specs.Lists.{distances, links_of}

-- The counts of the distances are those of the links.
band-distances : (K : List Link) (k : ℕ) → band_in (distances K) k ≡ band K k
unfolding band_in band sum_over
band-distances [] k = refl
band-distances (l ∷ K) k = ap (λ (m : ℕ). cond (eqb (binary_digits l.distance) k) 1 0 + m) (band-distances K k)

bands_distances : (K : List Link) (n k : ℕ) → flat (nat_bytes count_size) (tabulate (band_in (distances K)) k n) ≡ bands_from K k n
unfolding tabulate flat bands_from
bands_distances K zero k = refl
bands_distances K (suc n) k = λ i. nat_bytes count_size (band-distances K k i) ++ bands_distances K n (suc k) i

pub counts_bytes : (K : List Link) → flat (nat_bytes count_size) (band_counts (distances K)) ≡ band_bytes K
unfolding band_counts band_bytes
counts_bytes K = bands_distances K band_count 0

pub distances-length : (L : List (List ℕ)) → length (distances (links_of L)) ≡ length L
distances-length L = simp length-map
