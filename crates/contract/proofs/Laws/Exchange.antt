-- The calls on two tables with their finished list, and on the same tables exchanged.
use Rattle.std.specs.Prelude.{ℕ, zero, suc, ◌≡◌, Bool, cond, ◌&&◌, ◌||◌, leb, length, Ok, Option, None, Some}
use Rattle.std.proofs.Math.Path.{refl, ap}
use Rattle.std.proofs.Common.{sym, ◌∙◌, ap₂, arith, ne_eqb, eqb-true}
use Rattle.std.proofs.Math.Bool.{true, false}
use mathlib.Core.List.{List, [], ◌∷◌, ◌++◌, Memᴰ}
use Rattle.std.proofs.Math.Decide.{ℕ_discrete}
use Rattle.std.proofs.Math.Dec.{eqb}
use Rattle.std.proofs.lemmas.Bool.{lt-leb}
use Rattle.matching.specs.declared.Master.{Master}
use Rattle.matching.specs.declared.Master.TheVariants.{A as master_a, B as master_b}
use Rattle.matching.specs.Definitions.Nodes.{each, other, Node, Unique, has}
use Rattle.matching.specs.Definitions.Links.{Link, exchange}
use Rattle.matching.specs.Definitions.Join as theory
use Rattle.matching.specs.Definitions.Join.{join}
use Rattle.matching.proofs.Laws.Reordered.{reordered_sum, sum_of_map}
use Rattle.matching.proofs.Theorems.Exchange.{exchange_reordered, exchange_spare}
use Rattle.tables.specs.Definitions.Sizes.{table_size, list_size, count_size, counts_size, band_count}
use Rattle.tables.specs.Definitions.Fields.{nat_bytes}
use Rattle.tables.specs.Definitions.Tables.{nodes_in, Accepted}
use Rattle.tables.specs.Definitions.Lists.{finished}
use Rattle.tables.specs.Definitions.Bands.{binary_digits, band, bands_from, band_bytes}
use Rattle.tables.proofs.Laws.Accepted.{nodes_good}
use Rattle.tables.specs.Laws.Compare.{same_difference}
use Rattle.contract.specs.Definitions.Answers.{Answer, refused, code_of}
use Rattle.contract.specs.declared.Refusal.TheVariants.{Length, Master as WrongMaster, Field, Number}
use Rattle.contract.specs.Definitions.Buffers.{paired, lengths_of, drawn, links_of, master_named}
use Rattle.contract.specs.Definitions.Shapes.{Shape, Outcome, outcome}
use Rattle.contract.specs.Definitions.Requests.{spare_shape, bands_shape}
use Rattle.contract.specs.Definitions.Refusals.{lengths_right, refused_or}
use Rattle.contract.specs.Definitions.Calls.{unchanged, call}
use Rattle.contract.specs.Definitions.Exchange.{other_byte}
use Rattle.contract.proofs.Laws.Conditions.{stated_right}
use Rattle.contract.proofs.Laws.Places.{own_answer, by_tests}
use Rattle.contract.proofs.Laws.Refusals.{wrong_call}
use Rattle.contract.proofs.Laws.Programs.{finished-length}

-- With the finished list of accepted tables only a call's own tests are left.
paired-call : (a b : List ℕ) → Accepted a → Accepted b → (x : Shape) → x.sized ≡ true → x.judges ≡ true
    → call x (paired a b) ≡ refused_or (own_answer x (drawn (paired a b))) (unchanged x (paired a b)) (x.done (paired a b))
unfolding call
paired-call a b ha hb x own judges = ap (λ (o : Option Answer). refused_or o (unchanged x (paired a b)) (x.done (paired a b)))
    (by_tests (lengths_of (paired a b)) x (paired a b) right ha.faultless hb.faultless judges (same_difference (finished a b)))
  where
    right : lengths_right (lengths_of (paired a b)) x ≡ true
    right = stated_right (lengths_of (paired a b)) x (record { a = ha.size; b = hb.size; list = finished-length a b; own = own })

-- A number that a master has is that of one of its nodes.
found : (n : ℕ) (A : List Node) → has n A ≡ true → (v : Node) × Memᴰ v A × (v.number ≡ n)
unfolding has
found n [] h = absurd (let z : ◌≡◌ {A = ℕ} 0 1 = cc in omega arith)
found n (v ∷ A) h = go (eqb v.number n) refl h (found n A)
  where
    go : (t : Bool) → eqb v.number n ≡ t → (t || has n A) ≡ true → (has n A ≡ true → (w : Node) × Memᴰ w A × (w.number ≡ n)) → (w : Node) × Memᴰ w (v ∷ A) × (w.number ≡ n)
    go true e g rest = (v, Memᴰ.head refl, eqb-true v.number n e)
    go false e g rest = let r = rest g in (r.0, Memᴰ.tail r.1, r.2)

-- Spare's answer, by whether the number is 0, whether it is there, and what is left.
abbrev answer : Bool → Bool → ℕ → Answer
answer nought there v = cond nought (refused Field 0) (cond there (Ok v) (refused Number 0))

answer_same : (z h : Bool) (v w : ℕ) → (h ≡ true → v ≡ w) → answer z h v ≡ answer z h w
answer_same true h v w e = refl
answer_same false true v w e = ap Ok (e refl)
answer_same false false v w e = refl

module _ (a b : List ℕ) (ha : Accepted a) (hb : Accepted b) where
  -- Spare of a node of the master s.
  spare-code : (m n : ℕ) (s : Master) → master_named m ≡ s → leb m 1 ≡ true
      → (call (spare_shape m n) (paired a b)).code ≡ code_of (answer (eqb n 0) (has n (each (nodes_in a) (nodes_in b) s)) (theory.spare s (nodes_in a) (nodes_in b) n))
  spare-code m n s e h = ap (λ (o : Outcome). o.code) (paired-call a b ha hb (spare_shape m n) refl refl) ∙ go (eqb n 0) (has n (each (nodes_in a) (nodes_in b) s)) refl refl
    where
      code : (o : Option Answer) → own_answer (spare_shape m n) (drawn (paired a b)) ≡ o → (r : Answer)
          → (refused_or o (unchanged (spare_shape m n) (paired a b)) ((spare_shape m n).done (paired a b))).code ≡ code_of r
          → (refused_or (own_answer (spare_shape m n) (drawn (paired a b))) (unchanged (spare_shape m n) (paired a b)) ((spare_shape m n).done (paired a b))).code ≡ code_of r
      code o i r g = ap (λ (x : Option Answer). (refused_or x (unchanged (spare_shape m n) (paired a b)) ((spare_shape m n).done (paired a b))).code) i ∙ g

      go : (t u : Bool) → eqb n 0 ≡ t → has n (each (nodes_in a) (nodes_in b) s) ≡ u
          → (refused_or (own_answer (spare_shape m n) (drawn (paired a b))) (unchanged (spare_shape m n) (paired a b)) ((spare_shape m n).done (paired a b))).code
          ≡ code_of (answer t u (theory.spare s (nodes_in a) (nodes_in b) n))
      go true u x y = code (Some (refused Field 0)) (unfold own_answer in rw (h, x)) (refused Field 0) refl
      go false false x y = code (Some (refused Number 0)) (unfold own_answer in rw (h, x, e, y)) (refused Number 0) refl
      go false true x y = code None (unfold own_answer in rw (h, x, e, y)) (Ok (theory.spare s (nodes_in a) (nodes_in b) n)) (rw e)

  -- Of no master.
  spare_none : (m n : ℕ) → leb m 1 ≡ false → (call (spare_shape m n) (paired a b)).code ≡ code_of (refused WrongMaster 0)
  spare_none m n h = ap (λ (o : Outcome). o.code) (paired-call a b ha hb (spare_shape m n) refl refl)
      ∙ ap (λ (x : Option Answer). (refused_or x (unchanged (spare_shape m n) (paired a b)) ((spare_shape m n).done (paired a b))).code) own
    where
      own : own_answer (spare_shape m n) (drawn (paired a b)) ≡ Some (refused WrongMaster 0)
      own = unfold own_answer in rw h

-- A node has as much to spare where its master comes in the other place.
same_left : (A B : List Node) → Unique A → Unique B → (n : ℕ) (s : Master) → has n (each A B s) ≡ true → theory.spare s A B n ≡ theory.spare (other s) B A n
same_left A B ua ub n s h =
    let v = found n (each A B s) h in
    ap (theory.spare s A B) (sym v.2) ∙ exchange_spare A B ua ub s v.1 ∙ ap (theory.spare (other s) B A) v.2

module _ (a b : List ℕ) (ha : Accepted a) (hb : Accepted b) where
  pub spare_exchanged : (m n : ℕ) → (call (spare_shape (other_byte m) n) (paired b a)).code ≡ (call (spare_shape m n) (paired a b)).code
  spare_exchanged m n = go (ℕ_discrete m 0) (ℕ_discrete m 1)
    where
      ua : Unique (nodes_in a)
      ua = (nodes_good a ha).unique

      ub : Unique (nodes_in b)
      ub = (nodes_good b hb).unique

      go : Dec (m ≡ 0) → Dec (m ≡ 1) → (call (spare_shape (other_byte m) n) (paired b a)).code ≡ (call (spare_shape m n) (paired a b)).code
      go (yes x) y = rw x (spare-code b a hb ha 1 n master_b refl refl
          ∙ ap code_of (answer_same (eqb n 0) (has n (nodes_in a)) _ _ (λ h. sym (same_left (nodes_in a) (nodes_in b) ua ub n master_a h)))
          ∙ sym (spare-code a b ha hb 0 n master_a refl refl))
      go (no x) (yes y) = rw y (spare-code b a hb ha 0 n master_a refl refl
          ∙ ap code_of (answer_same (eqb n 0) (has n (nodes_in b)) _ _ (λ h. sym (same_left (nodes_in a) (nodes_in b) ua ub n master_b h)))
          ∙ sym (spare-code a b ha hb 1 n master_b refl refl))
      go (no x) (no y) =
          let far : leb m 1 ≡ false = lt-leb m 1 (omega arith) in
          let stays : other_byte m ≡ m = rw (ne_eqb m 0 x, ne_eqb m 1 y) in
          ap (λ (k : ℕ). (call (spare_shape k n) (paired b a)).code) stays ∙ spare_none b a hb ha m n far ∙ sym (spare_none a b ha hb m n far)

-- Bands counts distances, which stay.
bands_same : (J K : List Link) → ((k : ℕ) → band J k ≡ band K k) → (n k : ℕ) → bands_from J k n ≡ bands_from K k n
unfolding bands_from
bands_same J K h zero k = refl
bands_same J K h (suc n) k = ap₂ (λ (x : ℕ) (r : List ℕ). nat_bytes count_size x ++ r) (h k) (bands_same J K h n (suc k))

pub bands_exchanged : (A B : List Node) → Unique A → Unique B → band_bytes (join B A) ≡ band_bytes (join A B)
unfolding band_bytes band
bands_exchanged A B ua ub = bands_same (join B A) (join A B) same band_count 0
  where
    same : (k : ℕ) → band (join B A) k ≡ band (join A B) k
    same k = sym (reordered_sum (λ (l : Link). cond (eqb (binary_digits l.distance) k) 1 0) (exchange_reordered A B ua ub))
        ∙ sum_of_map (λ (l : Link). cond (eqb (binary_digits l.distance) k) 1 0) exchange (join A B)

-- Counts of another length are refused.
pub bands_wrong : (a b c : List ℕ) → eqb (length c) counts_size ≡ false → call (bands_shape c) (paired a b) ≡ outcome (refused Length 0) (paired a b) (c ∷ [])
bands_wrong a b c e = wrong_call (bands_shape c) (paired a b) wrong
  where
    and_false : (s t u : Bool) → (s && (t && (u && false))) ≡ false
    and_false true true true = refl
    and_false true true false = refl
    and_false true false u = refl
    and_false false t u = refl

    wrong : lengths_right (lengths_of (paired a b)) (bands_shape c) ≡ false
    wrong = unfold lengths_right in ap (λ (o : Bool). eqb (length a) table_size && (eqb (length b) table_size && (eqb (length (finished a b)) list_size && o))) e
        ∙ and_false (eqb (length a) table_size) (eqb (length b) table_size) (eqb (length (finished a b)) list_size)

-- Counts of the right length are filled.
pub bands_filled : (a b c : List ℕ) → Accepted a → Accepted b → eqb (length c) counts_size ≡ true
    → call (bands_shape c) (paired a b) ≡ outcome (Ok 0) (paired a b) (band_bytes (links_of (paired a b)) ∷ [])
bands_filled a b c ha hb e = paired-call a b ha hb (bands_shape c) e refl ∙ done
  where
    done : refused_or (own_answer (bands_shape c) (drawn (paired a b))) (unchanged (bands_shape c) (paired a b)) ((bands_shape c).done (paired a b)) ≡ (bands_shape c).done (paired a b)
    done = unfold own_answer in refl
