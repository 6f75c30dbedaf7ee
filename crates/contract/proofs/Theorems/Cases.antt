-- Document 01's cases E1 to E9 come out as it says.
use Rattle.std.specs.Prelude.{ℕ, zero, suc, ◌+◌, ◌*◌, ◌≤◌, ◌≡◌, true, false, pos, eqb, length, get_or, take, replicate, Ok, None}
use Rattle.std.proofs.Math.Path.{refl, ap, ap₂}
use Rattle.std.proofs.Common.{◌∙◌, arith, eq-eqb}
use mathlib.Core.List.{List, [], ◌∷◌}
use Rattle.matching.specs.Definitions.Lists.{All}
use Rattle.matching.specs.declared.Master.TheVariants.{A as master_a, B as master_b}
use Rattle.matching.specs.Definitions.Nodes.{has}
use Rattle.matching.specs.Definitions.Links.{Link, common}
use Rattle.matching.specs.Definitions.Join.{join}
use Rattle.matching.specs.Cases.{e1, e2, e3, e5, e5x, e6, e7, cases-join, cases_spare, case_kept}
use Rattle.matching.specs.Cases as theory
use Rattle.matching.proofs.Theorems.Join.{join_none_b}
use Rattle.tables.specs.Definitions.Sizes.{counts_size, node_rows, link_size, edit_size}
use Rattle.tables.specs.Definitions.Fields.{Bytes, nat_bytes}
use Rattle.tables.specs.Definitions.Tables.{node_bytes, table_bytes, faulty, first_fault}
use Rattle.tables.specs.Definitions.Lists.{list_bytes, finished, differs}
use Rattle.tables.specs.Definitions.Edits.{number_of, edit_fields, edit_nodes}
use Rattle.tables.specs.Definitions.Bands.{band_bytes}
use Rattle.tables.proofs.Laws.Tables.{table_length}
use Rattle.tables.specs.Laws.Lists.{list_length}
use Rattle.contract.specs.declared.Refusal.TheVariants.{TableA, TableB, Damaged, Unfinished}
use Rattle.contract.specs.Definitions.Answers.{value_end}
use Rattle.contract.specs.Definitions.Buffers.{Buffers, lent, lengths_of, stated_lengths, Drawing, drawing, Good, links, drawn, links_of, buffers}
use Rattle.contract.specs.Definitions.Shapes.{reads, OfBytes, outcome, turn}
use Rattle.contract.specs.Definitions.Requests.{redrawn, Request, pair, step, edit, spare, bands, shape}
use Rattle.contract.specs.Definitions.Refusals.{lengths_right, refused_or}
use Rattle.contract.specs.Definitions.Conditions.{First}
use Rattle.contract.specs.Definitions.Drawing.{played, shown}
use Rattle.contract.specs.Definitions.History.{Plays}
use Rattle.contract.specs.Definitions.Cases.{Right, case, single, e3_counts, damaged_links, moving, cases}
use Rattle.contract.proofs.Laws.Conditions.{stated_right}
use Rattle.contract.proofs.Laws.Places.{Tried, tried, own_answer}
use Rattle.contract.proofs.Laws.Drawing.{drawn_back, drawn_list}
use Rattle.contract.proofs.Laws.Cases.{are_nodes, are_good, accepts, by_nodes, on_zero, on_damaged, on_faulty-a, on_faulty-b}
use Rattle.contract.proofs.Theorems.Pair.{pair_done}
use Rattle.contract.proofs.Theorems.Steps.{step_next}

-- How they are computed. A drawing of good nodes, whose join is known:
abbrev pub paper_of : theory.Case → Drawing
paper_of d = drawing d.a d.b

pub record Known (d : theory.Case) : Type 0 where
  pub good : Good (paper_of d)
  pub is_join : join d.a d.b ≡ d.links

pub known : (d : theory.Case) → are_nodes d.a ≡ true → are_nodes d.b ≡ true → length d.a ≤ node_rows → length d.b ≤ node_rows → join d.a d.b ≡ d.links → Known d
known d h g r s e = record { good = both; is_join = e }
  where
    both : Good (paper_of d)
    both master_a = are_good d.a h r
    both master_b = are_good d.b g s

module _ (d : theory.Case) (k : Known d) where
  abbrev a : List ℕ
  a = table_bytes d.a

  abbrev b : List ℕ
  b = table_bytes d.b

  finishes : finished a b ≡ list_bytes d.links
  finishes = drawn_list (paper_of d) k.good ∙ ap list_bytes k.is_join

  links_are : (l : List ℕ) → links_of (lent a b l) ≡ d.links
  unfolding buffers
  links_are l = ap links (drawn_back (paper_of d) k.good) ∙ k.is_join

  pub on_pair : Right (case d [] pair 0 (length d.links) d.links [])
  unfolding Right
  on_pair =
      pair_done a b (list_bytes []) (accepts (paper_of d) k.good master_a) (accepts (paper_of d) k.good master_b) (list_length [] (omega arith))
      ∙ ap₂ (λ (K : List Link) (l : List ℕ). outcome (Ok (length K)) (lent a b l) []) (links_are (list_bytes [])) finishes

  -- With the finished list the call shows what its own tests leave of its turn on paper.
  pub on_turn : (q : Request) (n v : ℕ) (f : theory.Case) (xs : List (List ℕ)) → join f.a f.b ≡ f.links
      → OfBytes (shape q) → Plays (shape q).acts → lengths_right stated_lengths (shape q) ≡ true → (shape q).judges ≡ true
      → refused_or (own_answer (shape q) (paper_of d)) (λ r. turn r (shape q).others (paper_of d)) (played (shape q).acts (shape q).others (paper_of d))
      ≡ record { code = n * value_end + v; others = xs; next = paper_of f }
      → Right (record { drawing = d; list = d.links; request = q; number = n; value = v; redrawn = f; after = f.links; others = xs })
  unfolding Right buffers
  on_turn q n v f xs i o p r j t = rw (← i, ← k.is_join) (by_nodes (paper_of d) k.good q o p r j ∙ ap shown t)

  pub on_nodes : (q : Request) (v : ℕ) (xs : List (List ℕ)) → OfBytes (shape q) → Plays (shape q).acts → lengths_right stated_lengths (shape q) ≡ true → (shape q).judges ≡ true
      → refused_or (own_answer (shape q) (paper_of d)) (λ r. turn r (shape q).others (paper_of d)) (played (shape q).acts (shape q).others (paper_of d)) ≡ turn (Ok v) xs (paper_of d)
      → Right (case d d.links q 0 v d.links xs)
  on_nodes q v xs = on_turn q 0 v d xs k.is_join

k1 : Known e1
unfolding are_nodes
k1 = known e1 refl refl (omega arith) (omega arith) cases-join.0

k2 : Known e2
unfolding are_nodes
k2 = known e2 refl refl (omega arith) (omega arith) cases-join.1.0

k3 : Known e3
unfolding are_nodes
k3 = known e3 refl refl (omega arith) (omega arith) cases-join.1.1.0

k4 : Known (single (pos 0) 64 0)
unfolding are_nodes
k4 = known (single (pos 0) 64 0) refl refl (omega arith) (omega arith) (join_none_b (single (pos 0) 64 0).a)

pub k5 : Known e5
unfolding are_nodes
k5 = known e5 refl refl (omega arith) (omega arith) cases-join.1.1.1.0

k5x : Known e5x
unfolding are_nodes
k5x = known e5x refl refl (omega arith) (omega arith) cases-join.1.1.1.1.0

k6 : Known e6
unfolding are_nodes
k6 = known e6 refl refl (omega arith) (omega arith) cases-join.1.1.1.1.1.1.0

k7 : Known e7
unfolding are_nodes
k7 = known e7 refl refl (omega arith) (omega arith) cases-join.1.1.1.1.1.1.1.0

-- E2 and E6, Spare.
e2-spare : Right (case e2 [] (spare 0 1) 0 1 [] [])
unfolding own_answer lengths_right has
e2-spare = on_nodes e2 k2 (spare 0 1) 1 [] tt tt refl refl (ap (λ (n : ℕ). turn (Ok n) [] (paper_of e2)) cases_spare.0)

e6-spare : Right (case e6 e6.links (spare 1 2) 0 1 e6.links [])
unfolding own_answer lengths_right has
e6-spare = on_nodes e6 k6 (spare 1 2) 1 [] tt tt refl refl (ap (λ (n : ℕ). turn (Ok n) [] (paper_of e6)) cases_spare.1)

-- E1, Step.
e1-step : Right (case e1 [] step 0 0 [] [])
unfolding own_answer lengths_right
e1-step = on_nodes e1 k1 step 0 [] tt tt refl refl refl

-- E3, Bands.
sevens : (n : ℕ) → Bytes (replicate n 7)
sevens zero = tt
sevens (suc n) = (omega arith, sevens n)

e3-bands : Right (case e3 e3.links (bands (replicate counts_size 7)) 0 0 e3.links (e3_counts ∷ []))
unfolding own_answer lengths_right band_bytes nat_bytes
e3-bands = on_nodes e3 k3 (bands (replicate counts_size 7)) 0 (e3_counts ∷ []) (sevens counts_size, tt) tt refl refl (ap (λ (K : List Link). turn (Ok 0) (band_bytes K ∷ []) (paper_of e3)) k3.is_join)

-- E4, a faulty row.
module _ (d : theory.Case) (h : length d.a ≤ node_rows) (g : length d.b ≤ node_rows) where
  abbrev empty : Buffers
  empty = lent (table_bytes d.a) (table_bytes d.b) (list_bytes [])

  right : lengths_right (lengths_of empty) (shape pair) ≡ true
  right = stated_right (lengths_of empty) (shape pair) (record { a = table_length d.a h; b = table_length d.b g; list = list_length [] (omega arith); own = refl })

  pub fault_a : (k : ℕ) → First (faulty (table_bytes d.a)) node_rows k → Right (case d [] pair 2 k [] [])
  unfolding Right
  fault_a k = on_faulty-a (shape pair) empty right k (tried (shape pair) (drawn empty) TableA refl refl)

  pub fault_b : (k : ℕ) → first_fault (table_bytes d.a) ≡ None → First (faulty (table_bytes d.b)) node_rows k → Right (case d [] pair 3 k [] [])
  unfolding Right
  fault_b k = on_faulty-b (shape pair) empty right k (tried (shape pair) (drawn empty) TableB refl refl)

pub first_row : (t : List ℕ) → faulty t 0 ≡ true → First (faulty t) node_rows 0
first_row t f = record { low = omega arith; here = f; ahead = λ i l. absurd (omega arith) }

far : faulty (table_bytes (single (pos 16385) 1 0).a) 0 ≡ true
unfolding faulty table_bytes nat_bytes
far = refl

much : faulty (table_bytes (single (pos 0) 65 0).a) 0 ≡ true
unfolding faulty table_bytes nat_bytes
much = refl

-- E8.
e8_edit : (e : List ℕ) → length e ≡ edit_size → Right (case e7 [] (edit e) 5 0 [] (e ∷ []))
unfolding Right lengths_right
e8_edit e h = on_zero (paper_of e7) k7.good (shape (edit e)) refl (tried (shape (edit e)) _ Unfinished refl refl) (eq-eqb (length e) edit_size h) (list_length [] (omega arith)) (rw k7.is_join (omega arith))

e8_step : Right (case e7 [] step 0 1 (take 1 e7.links) [])
unfolding Right
e8_step =
    step_next a₇ b₇ (accepts (paper_of e7) k7.good master_a) (accepts (paper_of e7) k7.good master_b) 0 (rw (links_are e7 k7 (finished a₇ b₇)) (omega arith))
    ∙ ap (λ (K : List Link). outcome (Ok 1) (lent a₇ b₇ (list_bytes (take 1 K))) []) (links_are e7 k7 (finished a₇ b₇))
  where
    a₇ : List ℕ
    a₇ = table_bytes e7.a

    b₇ : List ℕ
    b₇ = table_bytes e7.b

unlike : differs (list_bytes damaged_links) (list_bytes e7.links) 0 ≡ true
unfolding differs list_bytes nat_bytes
unlike = refl

not_zero : eqb (get_or (list_bytes damaged_links) link_size 0) 0 ≡ false
unfolding list_bytes nat_bytes
not_zero = refl

e8_damaged : (q : Request) → reads (shape q).list ≡ true → Tried (shape q) (drawn (lent (table_bytes e7.a) (table_bytes e7.b) (list_bytes damaged_links))) Damaged → lengths_right stated_lengths (shape q) ≡ true → Right (case e7 damaged_links q 4 0 damaged_links (shape q).others)
unfolding Right
e8_damaged q r t h = on_damaged (paper_of e7) k7.good (shape q) (list_bytes damaged_links) (list_length damaged_links (omega arith)) r t h (rw k7.is_join unlike) link_size (omega arith) not_zero

-- E9: the drawing is redrawn as it was, and the joins before and after have three rows in common.
e9_turn : played (shape (edit moving)).acts (moving ∷ []) (paper_of e7) ≡ turn (Ok 3) (moving ∷ []) (paper_of e7)
unfolding redrawn edit_nodes node_bytes nat_bytes
e9_turn =
    ap₂ (λ (K J : List Link). turn (Ok (common K J)) (moving ∷ []) (paper_of e7)) cases-join.1.1.1.1.1.1.1.0 cases-join.1.1.1.1.1.1.1.1.0
    ∙ ap (λ (n : ℕ). turn (Ok n) (moving ∷ []) (paper_of e7)) case_kept

e9_move : Right (case e7 e7.links (edit moving) 0 3 e7.links (moving ∷ []))
unfolding own_answer lengths_right has number_of edit_fields node_bytes nat_bytes
e9_move = on_nodes e7 k7 (edit moving) 3 (moving ∷ []) (omega arith, tt) tt refl refl e9_turn

-- E1 to E9.
pub cases_right : (e : List ℕ) → length e ≡ edit_size → All Right (cases e)
unfolding lengths_right
cases_right e h =
    also (on_pair e1 k1) (also e1-step (also (on_pair e2 k2) (also e2-spare (also (on_pair e3 k3) (also e3-bands (
    also (fault_a (single (pos 16385) 1 0) (omega arith) (omega arith) 0 (first_row _ far)) (also (on_pair (single (pos 0) 64 0) k4) (also (fault_a (single (pos 0) 65 0) (omega arith) (omega arith) 0 (first_row _ much)) (
    also (on_pair e5 k5) (also (on_pair e5x k5x) (also (on_pair e6 k6) (also e6-spare (also (on_pair e7 k7) (
    also (e8_edit e h) (also e8_step (also (e8_damaged (edit e) refl (tried (shape (edit e)) _ Damaged refl refl) (eq-eqb (length e) edit_size h)) (also (e8_damaged step refl (tried (shape step) _ Damaged refl refl) refl) (
    also e9_move tt))))))))))))))))))
  where
    also : {X Y : Type 0} → X → Y → X × Y
    also x y = (x, y)
