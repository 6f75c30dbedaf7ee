-- Laws by which document 01's cases are computed on nodes and links, not on whole tables.
use Rattle.std.specs.Prelude.{ℕ, ◌<◌, ◌≤◌, ◌≡◌, Bool, not, ◌&&◌, List, [], ◌∷◌, leb, ltb, nat_abs, length, get_or, Option, None, Some}
use Rattle.std.proofs.Math.Path.{refl, sym, ap}
use Rattle.std.proofs.Common.{◌∙◌, arith, leb-true, ltb-true}
use Rattle.std.proofs.Math.Bool.{true, false}
use Rattle.std.proofs.Math.Dec.{eqb}
use Rattle.std.proofs.lemmas.Bool.{not-true}
use Rattle.matching.specs.Definitions.Lists.{All}
use Rattle.matching.specs.declared.Master.{Master}
use Rattle.matching.specs.declared.Master.TheVariants.{A as master_a, B as master_b}
use Rattle.matching.specs.Definitions.Nodes.{each, Node, Unique, has}
use Rattle.matching.specs.Definitions.Links.{Link}
use Rattle.tables.specs.Definitions.Sizes.{number_end, farthest, most, most_sort, node_rows, link_rows, list_size}
use Rattle.tables.specs.Definitions.Rows.{all_from}
use Rattle.tables.specs.Definitions.Tables.{table_bytes, faulty, first_fault, Accepted, GoodNode, GoodNodes}
use Rattle.tables.specs.Definitions.Lists.{list_bytes, finished, differs, first_difference, zero_from}
use Rattle.tables.specs.Laws.Rows.{and_split, from_all}
use Rattle.tables.proofs.Laws.Faultless.{table_accepted}
use Rattle.tables.specs.Laws.Lists.{GoodLink}
use Rattle.tables.specs.Laws.Compare.{same_difference}
use Rattle.tables.proofs.Laws.Edited.{has_none}
use Rattle.contract.specs.Definitions.Answers.{Answer, refused}
use Rattle.contract.specs.declared.Refusal.TheVariants.{TableA, TableB, Damaged, Unfinished}
use Rattle.contract.specs.Definitions.Buffers.{Buffers, lent, lengths_of, stated_lengths, Drawing, Good, links, drawn, buffers}
use Rattle.contract.specs.Definitions.Shapes.{reads, needs_all, OfBytes, outcome, Turn, turn, Shape}
use Rattle.contract.specs.Definitions.Requests.{Request, shape}
use Rattle.contract.specs.Definitions.Refusals.{lengths_right, refusal, refused_or}
use Rattle.contract.specs.Definitions.Conditions.{First}
use Rattle.contract.specs.Definitions.Calls.{call}
use Rattle.contract.specs.Definitions.Drawing.{played, answers, shown}
use Rattle.contract.specs.Definitions.History.{Plays, Stands}
use Rattle.contract.proofs.Laws.Conditions.{first_fault_lem, first_leaves}
use Rattle.contract.proofs.Laws.Refusals.{call_refused}
use Rattle.contract.proofs.Laws.Places.{Tried, own_answer, faulty_a, faulty_b, damaged, unfinished, by_tests}
use Rattle.contract.proofs.Laws.Lists.{join_good}
use Rattle.contract.proofs.Laws.Leading.{leading_differs, leading_zero}
use Rattle.contract.proofs.Laws.Drawing.{drawn_room, drawn_back, drawn_list}
use Rattle.contract.proofs.Laws.Lawful.{call-shown}
use Rattle.contract.proofs.Laws.Calls.{lawful, faithful}

-- A test of a master's nodes.
unfoldable pub is_node : Node → Bool
is_node v =
    leb 1 v.number
    && (ltb v.number number_end && (leb (nat_abs v.x) farthest && (leb (nat_abs v.y) farthest && (leb 1 v.capacity && (leb v.capacity most && leb v.sort most_sort)))))

unfoldable pub are_nodes : List Node → Bool
unfolding is_node has
are_nodes [] = true
are_nodes (v ∷ A) = is_node v && (not (has v.number A) && are_nodes A)

good_node : (v : Node) → is_node v ≡ true → GoodNode v
unfolding is_node
good_node v h =
    let a = and_split (leb 1 v.number) _ h in
    let b = and_split (ltb v.number number_end) _ a.1 in
    let c = and_split (leb (nat_abs v.x) farthest) _ b.1 in
    let d = and_split (leb (nat_abs v.y) farthest) _ c.1 in
    let e = and_split (leb 1 v.capacity) _ d.1 in
    let f = and_split (leb v.capacity most) (leb v.sort most_sort) e.1 in
    record {
      low = leb-true 1 v.number a.0;
      high = ltb-true v.number number_end b.0;
      across = leb-true (nat_abs v.x) farthest c.0;
      up = leb-true (nat_abs v.y) farthest d.0;
      least = leb-true 1 v.capacity e.0;
      most = leb-true v.capacity most f.0;
      sort = leb-true v.sort most_sort f.1;
    }

good_nodes : (A : List Node) → are_nodes A ≡ true → All GoodNode A × Unique A
unfolding are_nodes
good_nodes [] h = (tt, tt)
good_nodes (v ∷ A) h =
    let a = and_split (is_node v) (not (has v.number A) && are_nodes A) h in
    let b = and_split (not (has v.number A)) (are_nodes A) a.1 in
    let r = good_nodes A b.1 in
    ((good_node v a.0, r.0), (has_none v.number A (not-true (has v.number A) b.0), r.1))

pub are_good : (A : List Node) → are_nodes A ≡ true → length A ≤ node_rows → GoodNodes A
are_good A h r = let g = good_nodes A h in record { good = g.0; unique = g.1; room = r }

-- The calls on the tables of good nodes, and a list of the stated length.
module _ (d : Drawing) (g : Good d) where
  abbrev a : List ℕ
  a = table_bytes d.a

  abbrev b : List ℕ
  b = table_bytes d.b

  pub accepts : (s : Master) → Accepted (each a b s)
  accepts master_a = table_accepted d.a (g master_a)
  accepts master_b = table_accepted d.b (g master_b)

  sized : (l : List ℕ) → length l ≡ list_size → lengths_of (lent a b l) ≡ stated_lengths
  sized l h = λ i. record { a = (accepts master_a).size i; b = (accepts master_b).size i; list = h i }

  -- With the finished list only the call's own tests are left.
  pub by_nodes : (q : Request) → OfBytes (shape q) → Plays (shape q).acts → lengths_right stated_lengths (shape q) ≡ true → (shape q).judges ≡ true
      → call (shape q) (buffers d) ≡ shown (refused_or (own_answer (shape q) d) (λ r. turn r (shape q).others d) (played (shape q).acts (shape q).others d))
  by_nodes q o p r j = call-shown (shape q) (lawful q) (faithful q) d g o (stands (refusal stated_lengths (shape q) (buffers d)) (shape q).acts p) ∙ ap shown turned
    where
      stands : (r : Option Answer) (f : Option (Drawing → Turn)) → Plays f → Stands r f
      stands None f h = h
      stands (Some r) f h = tt

      same : first_difference (buffers d).list (finished (buffers d).a (buffers d).b) ≡ None
      same = unfold buffers in rw (drawn_list d g) (same_difference (list_bytes (links d)))

      left : refusal stated_lengths (shape q) (buffers d) ≡ own_answer (shape q) (drawn (buffers d))
      left = by_tests stated_lengths (shape q) (buffers d) r (unfold buffers in (accepts master_a).faultless) (unfold buffers in (accepts master_b).faultless) j same

      turned : answers stated_lengths (shape q) d ≡ refused_or (own_answer (shape q) d) (λ r. turn r (shape q).others d) (played (shape q).acts (shape q).others d)
      turned = unfold answers in rw (left ∙ ap (own_answer (shape q)) (drawn_back d g))

  -- The zero list where there are links: 5, with row 0.
  pub on_zero : (x : Shape) → needs_all x.list ≡ true → Tried x (drawn (lent a b (list_bytes []))) Unfinished → lengths_right stated_lengths x ≡ true → length (list_bytes []) ≡ list_size → 0 < length (links d)
      → call x (lent a b (list_bytes [])) ≡ outcome (refused Unfinished 0) (lent a b (list_bytes [])) x.others
  on_zero x n t r h m = call_refused x (lent a b (list_bytes [])) (refused Unfinished 0) (rw (sized (list_bytes []) h)
      (unfinished stated_lengths x (lent a b (list_bytes [])) r (accepts master_a).faultless (accepts master_b).faultless t 0 (rw (drawn_list d g) (leading_differs J good room 0 m)) n (leading_zero J good room 0 m)))
    where
      J : List Link
      J = links d

      good : All GoodLink (links d)
      good = join_good d.a d.b (g master_a) (g master_b)

      room : length (links d) ≤ link_rows
      room = drawn_room d g

  -- A list whose first row is not the finished one's, with a byte j that is not zero: 4, with row 0.
  pub on_damaged : (x : Shape) (l : List ℕ) → length l ≡ list_size → reads x.list ≡ true → Tried x (drawn (lent a b l)) Damaged → lengths_right stated_lengths x ≡ true
      → differs l (list_bytes (links d)) 0 ≡ true → (j : ℕ) → j < list_size → eqb (get_or l j 0) 0 ≡ false
      → call x (lent a b l) ≡ outcome (refused Damaged 0) (lent a b l) x.others
  on_damaged x l h n t r f j k z = call_refused x (lent a b l) (refused Damaged 0) (rw (sized l h) (damaged stated_lengths x (lent a b l) r (accepts master_a).faultless (accepts master_b).faultless t 0 first n rest))
    where
      first : first_difference l (finished a b) ≡ Some 0
      first = first_leaves (lent a b l) 0 (record { low = omega arith; here = rw (drawn_list d g) f; ahead = λ i t. absurd (omega arith) })

      rest : zero_from l 0 ≡ false
      rest = unfold zero_from in go (all_from (λ i. eqb (get_or l i 0) 0) 0 list_size) refl
        where
          go : (t : Bool) → all_from (λ i. eqb (get_or l i 0) 0) 0 list_size ≡ t → t ≡ false
          go true e = sym (from_all (λ i. eqb (get_or l i 0) 0) 0 list_size j e (omega arith) k) ∙ z
          go false e = refl

-- The first faulty row: of A 2, of B 3, with the row.
module _ (x : Shape) (h : Buffers) (r : lengths_right (lengths_of h) x ≡ true) (k : ℕ) where
  pub on_faulty-a : Tried x (drawn h) TableA → First (faulty h.a) node_rows k → call x h ≡ outcome (refused TableA k) h x.others
  on_faulty-a t f = call_refused x h (refused TableA k) (faulty_a (lengths_of h) x h r t k (first_fault_lem h.a k f))

  pub on_faulty-b : Tried x (drawn h) TableB → first_fault h.a ≡ None → First (faulty h.b) node_rows k → call x h ≡ outcome (refused TableB k) h x.others
  on_faulty-b t e f = call_refused x h (refused TableB k) (faulty_b (lengths_of h) x h r e t k (first_fault_lem h.b k f))
