-- Bands: how many links have a squared distance of k binary digits, for each k, as bytes.
use Rattle.std.specs.Prelude.{ℕ, zero, suc, ◌/◌, cond, List, [], ◌++◌, eqb}
use Rattle.matching.specs.Definitions.Lists.{sum_over}
use Rattle.matching.specs.Definitions.Links.{Link}
use Rattle.tables.specs.Definitions.Sizes.{count_size, band_count}
use Rattle.tables.specs.Definitions.Fields.{nat_bytes}

-- The number of binary digits of n, 0 having none: n halved until nothing is left. As many turns as n itself are enough.
unfoldable pub digits_in : ℕ → ℕ → ℕ
digits_in zero n = zero
digits_in (suc k) zero = zero
digits_in (suc k) (suc n) = suc (digits_in k (suc n / 2))

unfoldable pub binary_digits : ℕ → ℕ
unfolding digits_in
binary_digits n = digits_in n n

-- The number of links whose squared distance has k binary digits,
unfoldable pub band : List Link → ℕ → ℕ
unfolding sum_over binary_digits
band K k = sum_over (λ (l : Link). cond (eqb (binary_digits l.distance) k) 1 0) K

-- and these counts one after the other, the n from k on.
unfoldable pub bands_from : List Link → ℕ → ℕ → List ℕ
unfolding nat_bytes band
bands_from K k zero = []
bands_from K k (suc n) = nat_bytes count_size (band K k) ++ bands_from K (suc k) n

unfoldable pub band_bytes : List Link → List ℕ
unfolding bands_from
band_bytes K = bands_from K 0 band_count
