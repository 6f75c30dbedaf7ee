-- The places of a lawful call are the conditions, one by one.
use Rattle.std.specs.Prelude.{ℕ, ◌≤◌, ◌≡◌, refl, Bool, false, cond, ◌&&◌, ◌↔◌, eqb, Option, None, Some}
use Rattle.std.proofs.Common.{sym, ◌∙◌, ap, arith, eq-eqb, eqb-true}
use Rattle.std.proofs.Math.Bool.{true, not}
use Rattle.std.proofs.lemmas.Bool.{false≢true, not-true}
use mathlib.Core.List.{List, [], ◌∷◌}
use Rattle.matching.specs.Definitions.Lists.{All}
use Rattle.tables.specs.Definitions.Sizes.{node_rows, table_size, link_rows, list_size}
use Rattle.tables.specs.Definitions.Tables.{faulty, first_fault}
use Rattle.tables.specs.Definitions.Lists.{finished, differs, first_difference, zero_from}
use Rattle.tables.specs.Laws.Rows.{first_is, some_from, and_split}
use Rattle.contract.specs.declared.Refusal.{Refusal}
use Rattle.contract.specs.declared.Refusal.TheVariants.{Length, TableA, TableB, Damaged, Unfinished}
use Rattle.contract.specs.Definitions.Answers.{refusal_number}
use Rattle.contract.specs.Definitions.Buffers.{Buffers, Lengths, drawn}
use Rattle.contract.specs.Definitions.Shapes.{ListUse, ignored, leading, complete, reads, needs_all, Shape}
use Rattle.contract.specs.Definitions.Refusals.{lengths_right, faulty_row, row_that, damaged_row, unfinished_row, Row, general, same, own, row_of, place}
use Rattle.contract.specs.Definitions.Conditions as conditions
use Rattle.contract.specs.Definitions.Conditions.{Stated, First, Leaves, Holds, lengths, fault_a, fault_b, damaged, unfinished}
use Rattle.contract.proofs.Laws.Order.{every, same_number}
use Rattle.contract.proofs.Laws.Table.{nothing}
use Rattle.contract.proofs.Laws.Tests.{generals, is_own, Right, AllTests, own_only, own_when, own_owned, not_so}

-- The lengths are right exactly when they are the stated ones.
pub stated : (s : Lengths) (x : Shape) → lengths_right s x ≡ true → Stated s x
unfolding lengths_right
stated s x r =
    let p = and_split (eqb s.a table_size) (eqb s.b table_size && (eqb s.list list_size && x.sized)) r in
    let q = and_split (eqb s.b table_size) (eqb s.list list_size && x.sized) p.1 in
    let z = and_split (eqb s.list list_size) x.sized q.1 in
    record { a = eqb-true s.a table_size p.0; b = eqb-true s.b table_size q.0; list = eqb-true s.list list_size z.0; own = z.1 }

pub stated_right : (s : Lengths) (x : Shape) → Stated s x → lengths_right s x ≡ true
unfolding lengths_right
stated_right s x h = rw (eq-eqb s.a table_size h.a, eq-eqb s.b table_size h.b, eq-eqb s.list list_size h.list, h.own)

-- The first row that a test picks.
fault_first : (t : List ℕ) (k : ℕ) → first_fault t ≡ Some k → First (faulty t) node_rows k
unfolding first_fault
fault_first t k e = let f = some_from (faulty t) node_rows 0 k e in record { low = omega (arith, f.low); here = f.here; ahead = λ i. f.ahead i (omega arith) }

pub first_fault_lem : (t : List ℕ) (k : ℕ) → First (faulty t) node_rows k → first_fault t ≡ Some k
unfolding first_fault
first_fault_lem t k f = first_is (faulty t) node_rows 0 k (record { from = omega arith; low = omega (arith, f.low); here = f.here; ahead = λ i g. f.ahead i })

leaves_first : (h : Buffers) (k : ℕ) → first_difference h.list (finished h.a h.b) ≡ Some k → Leaves h k
unfolding first_difference
leaves_first h k e = let f = some_from (differs h.list (finished h.a h.b)) link_rows 0 k e in record { low = omega (arith, f.low); here = f.here; ahead = λ i. f.ahead i (omega arith) }

pub first_leaves : (h : Buffers) (k : ℕ) → Leaves h k → first_difference h.list (finished h.a h.b) ≡ Some k
unfolding first_difference
first_leaves h k f = first_is (differs h.list (finished h.a h.b)) link_rows 0 k (record { from = omega arith; low = omega (arith, f.low); here = f.here; ahead = λ i g. f.ahead i })

-- The uses of the list.
reads_too : (u : ListUse) → reads u ≡ true → ¬ (u ≡ ignored)
reads_too u h e = false≢true (ap reads (sym e) ∙ h)

too_reads : (u : ListUse) → ¬ (u ≡ ignored) → reads u ≡ true
too_reads ignored h = absurd (h refl)
too_reads leading h = refl
too_reads complete h = refl

needs_is : (u : ListUse) → needs_all u ≡ true → u ≡ complete
needs_is ignored h = absurd (false≢true h)
needs_is leading h = absurd (false≢true h)
needs_is complete h = refl

pub needs_reads : (u : ListUse) → needs_all u ≡ true → reads u ≡ true
needs_reads u h = rw (needs_is u h)

cond-some : (b : Bool) (o : Option ℕ) (k : ℕ) → cond b o None ≡ Some k → (b ≡ true) × (o ≡ Some k)
cond-some true o k e = (refl, e)
cond-some false o k e = absurd (nothing e)

row_that_lem : (t : ℕ → Bool) (o : Option ℕ) (k : ℕ) → row_that t o ≡ Some k → (o ≡ Some k) × (t k ≡ true)
row_that_lem t None k e = absurd (nothing e)
row_that_lem t (Some j) k e = let p = cond-some (t j) (Some j) k e in let i : j ≡ k = let q = p.1 in cc in (p.1, rw (← i) p.0)

-- The row of a refusal is one of the rows, or there is none.
row_only : (P : Refusal → ℕ → Type 0) (r : Refusal) (o : Option ℕ) (v : ℕ) → (o ≡ Some v → P r v)
    → (ws : List Row) → All (λ w. w.value ≡ Some v → P w.refusal v) ws → row_of r ws o ≡ Some v → P r v
unfolding row_of
row_only P r o v k [] h e = k e
row_only P r o v k (w ∷ ws) h e = go (same r w.refusal) refl e (row_only P r o v k ws h.1)
  where
    go : (b : Bool) → same r w.refusal ≡ b → cond b w.value (row_of r ws o) ≡ Some v → (row_of r ws o ≡ Some v → P r v) → P r v
    go true i g l = rw (same_number r w.refusal (eqb-true (refusal_number r) (refusal_number w.refusal) i)) (h.0 g)
    go false i g l = l g

row_none : (r : Refusal) (ws : List Row) (o : Option ℕ) → All (λ w. same r w.refusal ≡ false) ws → row_of r ws o ≡ o
unfolding row_of
row_none r [] o h = refl
row_none r (w ∷ ws) o h = rw h.0 (row_none r ws o h.1)

module _ (s : Lengths) (x : Shape) (h : Buffers) where
  -- An own refusal is tried by the own tests.
  pub place-own : (r : Refusal) → is_own r ≡ true → place s x h r ≡ own r x.tests (drawn h)
  unfolding place
  place-own r e = row_none r (general s x h) (own r x.tests (drawn h)) (go generals e)
    where
      go : (ps : List Refusal) → every (λ p. not (same r p)) ps ≡ true → All (λ p. same r p ≡ false) ps
      go [] e = tt
      go (p ∷ ps) e = let g = and_split (not (same r p)) (every (λ p. not (same r p)) ps) e in (not-true (same r p) g.0, go ps g.1)

  module _ (right : AllTests Right x.tests) where
    only : (r : Refusal) (v : ℕ) → place s x h r ≡ Some v → Holds s x h r v
    unfolding place
    only r v e = row_only (Holds s x h) r (own r x.tests (drawn h)) v by_own (general s x h) (wrong, (in_a, (in_b, (bad, (early, tt))))) e
      where
        by_own : own r x.tests (drawn h) ≡ Some v → Holds s x h r v
        by_own g = let k = own_only r x.tests right (drawn h) v g in rw (← k.1) (conditions.own k.0)

        wrong : cond (lengths_right s x) None (Some 0) ≡ Some v → Holds s x h Length v
        wrong g = go (lengths_right s x) refl g
          where
            go : (b : Bool) → lengths_right s x ≡ b → cond b None (Some 0) ≡ Some v → Holds s x h Length v
            go true i g = absurd (nothing g)
            go false i g = let j : 0 ≡ v = cc in rw (← j) (lengths (λ k. false≢true (sym i ∙ stated_right s x k)))

        in_a : faulty_row x h.a ≡ Some v → Holds s x h TableA v
        in_a g = unfold faulty_row in let k = cond-some x.judges (first_fault h.a) v g in fault_a k.0 (fault_first h.a v k.1)

        in_b : faulty_row x h.b ≡ Some v → Holds s x h TableB v
        in_b g = unfold faulty_row in let k = cond-some x.judges (first_fault h.b) v g in fault_b k.0 (fault_first h.b v k.1)

        bad : damaged_row x h ≡ Some v → Holds s x h Damaged v
        bad g = unfold damaged_row in
            let k = row_that_lem (λ k. reads x.list && not (zero_from h.list k)) (first_difference h.list (finished h.a h.b)) v g in
            let p = and_split (reads x.list) (not (zero_from h.list v)) k.1 in
            damaged (reads_too x.list p.0) (leaves_first h v k.0) (not-true (zero_from h.list v) p.1)

        early : unfinished_row x h ≡ Some v → Holds s x h Unfinished v
        early g = unfold unfinished_row in
            let k = row_that_lem (λ k. needs_all x.list && zero_from h.list k) (first_difference h.list (finished h.a h.b)) v g in
            let p = and_split (needs_all x.list) (zero_from h.list v) k.1 in
            unfinished (needs_is x.list p.0) (leaves_first h v k.0) p.1

    when : (r : Refusal) (v : ℕ) → Holds s x h r v → place s x h r ≡ Some v
    unfolding place faulty_row damaged_row unfinished_row
    when r v (lengths n) = rw (not-true (lengths_right s x) (not_so (lengths_right s x) (λ e. n (stated s x e))))
    when r v (fault_a {row = k} j f) = rw (j, first_fault_lem h.a k f)
    when r v (fault_b {row = k} j f) = rw (j, first_fault_lem h.b k f)
    when r v (damaged {row = k} n f z) = rw (first_leaves h k f, too_reads x.list n, z)
    when r v (unfinished {row = k} n f z) = rw (first_leaves h k f, n, z)
    when r v (conditions.own {r = p} k) = place-own p (own_owned p x.tests right (drawn h) k) ∙ own_when p x.tests right (drawn h) k

    pub place_right : (r : Refusal) (v : ℕ) → (place s x h r ≡ Some v) ↔ Holds s x h r v
    place_right r v = (only r v, when r v)

-- The value of a condition is a row, or 0.
pub value_low : {s : Lengths} {x : Shape} {h : Buffers} {r : Refusal} {v : ℕ} → Holds s x h r v → v ≤ link_rows
value_low (lengths n) = omega arith
value_low (fault_a j f) = omega (arith, f.low)
value_low (fault_b j f) = omega (arith, f.low)
value_low (damaged n f z) = omega (arith, f.low)
value_low (unfinished n f z) = omega (arith, f.low)
value_low (conditions.own k) = omega arith
