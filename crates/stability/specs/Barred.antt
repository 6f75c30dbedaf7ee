-- Limits by which no pair blocks.
use Rattle.std.specs.Prelude.{ℕ, ◌≡◌, List, [], ℤ, length, get_or}
use Rattle.std.proofs.Common.{arith}
use Rattle.matching.specs.Definitions.Rows.{Sorts, spans_of, On, gap}
use Rattle.matching.specs.declared.Master.{Master}
use Rattle.matching.specs.declared.Master.TheVariants.{A as master_a, B as master_b}
use Rattle.matching.specs.Definitions.Sizes.{set_rows}
use Rattle.stability.specs.Blocking.{Blocking, Stable}

-- Limits of all rows by which no pair of one sort blocks.
pub record Barred (ns : List ℕ) (at : List (List ℤ)) (S : Sorts) (L : List ℕ) : Type 0 where
  pub room : length L ≡ set_rows
  pub stable : (t : ℕ) → Stable ns at L L (spans_of S t).a (spans_of S t).b

-- Limits of 0 bar every pair.
pub barred_fresh : {ns : List ℕ} {at : List (List ℤ)} {S : Sorts} {L : List ℕ} → length L ≡ set_rows
    → ((t i : ℕ) → On (spans_of S t) master_a i → get_or L i 0 ≡ 0) → Barred ns at S L
barred_fresh r zero = record { room = r; stable = λ t i j h g b. omega (arith, zero t i h, b.0) }

-- Row k of sort t and master m after an edit: its limit is 0, or it has the number, the position and the limit of a row of that sort and master before.
pub data Patched (ns : List ℕ) (at : List (List ℤ)) (S : Sorts) (L ns' : List ℕ) (at' : List (List ℤ)) (L' : List ℕ) (t : ℕ) (m : Master) (k : ℕ) : Type 0 where
  fresh : get_or L' k 0 ≡ 0 → Patched ns at S L ns' at' L' t m k
  moved : (h : ℕ) → On (spans_of S t) m h → get_or ns h 0 ≡ get_or ns' k 0 → get_or at h [] ≡ get_or at' k [] → get_or L h 0 ≡ get_or L' k 0
      → Patched ns at S L ns' at' L' t m k

-- Limits stay so over an edit that leaves every row so.
pub barred_patched : {ns : List ℕ} {at : List (List ℤ)} {S : Sorts} {L ns' : List ℕ} {at' : List (List ℤ)} {S' : Sorts} {L' : List ℕ}
    → Barred ns at S L → length L' ≡ set_rows → ((t : ℕ) (m : Master) (k : ℕ) → On (spans_of S' t) m k → Patched ns at S L ns' at' L' t m k)
    → Barred ns' at' S' L'
unfolding gap
barred_patched {ns} {at} {S} {L} {ns'} {at'} {S'} {L'} b r rows = record {
  room = r;
  stable = λ t i j h g. go t i j (rows t master_a i h) (rows t master_b j g);
}
  where
    go : (t i j : ℕ) → Patched ns at S L ns' at' L' t master_a i → Patched ns at S L ns' at' L' t master_b j → ¬ Blocking ns' at' L' L' i j
    go t i j (fresh e) q k = omega (arith, e, k.0)
    go t i j (moved x h en ep el) (fresh e) k = omega (arith, e, k.1)
    go t i j (moved x h en ep el) (moved y g fn fp fl) k = b.stable t x y h g (rw (en, ep, el, fn, fp, fl) k)
