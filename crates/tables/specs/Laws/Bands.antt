-- Bands over the distances alone, and how code counts them.
use Rattle.std.specs.Prelude.{ℕ, suc, ◌+◌, ◌<◌, ◌≤◌, ◌≡◌, Bool, true, false, cond, List, [], ◌∷◌, eqb, length, get_or, set, replicate}
use Rattle.std.proofs.Math.Path.{refl}
use Rattle.std.proofs.Common.{sym, ◌∙◌, ap, zero-add, arith, length-set, get_or-set_same, get_or-set_other, ext_get_or, eq-eqb, ne_eqb}
use Rattle.std.proofs.Math.Decide.{ℕ_discrete}
use Rattle.std.proofs.lemmas.List.{length-replicate, get_or-replicate}
use Rattle.matching.specs.Definitions.Lists.{sum_over}
use Rattle.matching.specs.Definitions.Columns.{tabulate}
use Rattle.matching.proofs.Laws.Columns.{tabulate-length, tabulate_get}
use Rattle.tables.specs.Definitions.Sizes.{band_count}
use Rattle.tables.specs.Definitions.Bands.{binary_digits}

-- How many distances have k binary digits, and these counts for each k.
unfoldable pub band_in : List ℕ → ℕ → ℕ
unfolding sum_over
band_in ds k = sum_over (λ (d : ℕ). cond (eqb (binary_digits d) k) 1 0) ds

unfoldable pub band_counts : List ℕ → List ℕ
unfolding tabulate band_in
band_counts ds = tabulate (band_in ds) 0 band_count

counts_length : (ds : List ℕ) → length (band_counts ds) ≡ band_count
unfolding band_counts
counts_length ds = tabulate-length (band_in ds) 0 band_count

-- No band has more than all.
band_most : (ds : List ℕ) (k : ℕ) → band_in ds k ≤ length ds
unfolding band_in sum_over
band_most [] k = omega arith
band_most (d ∷ ds) k = go (eqb (binary_digits d) k) (band_most ds k)
  where
    go : (t : Bool) → band_in ds k ≤ length ds → cond t 1 0 + band_in ds k ≤ suc (length ds)
    go true h = omega arith
    go false h = omega arith

-- Counts while ds are still to come of all.
pub record Tally (found ds all : List ℕ) : Type 0 where
  pub size : length found ≡ band_count
  pub sum : (k : ℕ) → k < band_count → get_or found k 0 + band_in ds k ≡ band_in all k

pub tally_start : (ds : List ℕ) → Tally (replicate band_count 0) ds ds
tally_start ds = record { size = length-replicate {A = ℕ} band_count 0; sum = λ k h. rw (get_or-replicate {A = ℕ} band_count k 0 0 h) (zero-add (band_in ds k)) }

pub tally_most : {found ds all : List ℕ} → Tally found ds all → (k : ℕ) → k < band_count → get_or found k 0 ≤ length all
tally_most {found} {ds} {all} t k h = omega (arith, t.sum k h, band_most all k)

pub tally_turn : {found ds all : List ℕ} {d k : ℕ} → Tally found (d ∷ ds) all → k ≡ binary_digits d → k < band_count → Tally (set found k (get_or found k 0 + 1)) ds all
tally_turn {found} {ds} {all} {d} {k} t e h = record { size = length-set found k (get_or found k 0 + 1) ∙ t.size; sum = λ j g. go j g (ℕ_discrete j k) }
  where
    here : band_in (d ∷ ds) k ≡ 1 + band_in ds k
    here = unfold band_in sum_over in rw (eq-eqb (binary_digits d) k (sym e))

    other : (j : ℕ) → (j ≡ k → ⊥) → band_in (d ∷ ds) j ≡ band_in ds j
    other j s = unfold band_in sum_over in rw (ne_eqb (binary_digits d) j (λ z. s (sym (e ∙ z)))) (zero-add (band_in ds j))

    go : (j : ℕ) → j < band_count → Dec (j ≡ k) → get_or (set found k (get_or found k 0 + 1)) j 0 + band_in ds j ≡ band_in all j
    go j g (yes s) = rw (s, get_or-set_same found k (get_or found k 0 + 1) 0 (omega (arith, t.size))) (omega (arith, t.sum k h, here))
    go j g (no s) = rw (get_or-set_other found k j (get_or found k 0 + 1) 0 s) (omega (arith, t.sum j g, other j s))

pub tally_end : {found all : List ℕ} → Tally found [] all → found ≡ band_counts all
unfolding band_counts
tally_end {found} {all} t =
    ext_get_or 0 found (band_counts all) (t.size ∙ sym (counts_length all)) (λ k h. go k (omega (arith, t.size)))
  where
    none : (k : ℕ) → band_in [] k ≡ 0
    none k = unfold band_in sum_over in refl

    go : (k : ℕ) → k < band_count → get_or found k 0 ≡ get_or (tabulate (band_in all) 0 band_count) k 0
    go k h = omega (arith, t.sum k h, none k) ∙ sym (tabulate_get (band_in all) 0 band_count k 0 h ∙ ap (band_in all) (zero-add k))
