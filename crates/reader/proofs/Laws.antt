-- The reader's rows by cases, and the nodes that they have.
use Prim.Native.Nat.{ℕ, zero, suc, ◌+◌, ◌*◌, ◌<◌, ◌≤◌, min}
use Rattle.std.proofs.Math.Path.{◌≡◌, refl, sym, ap}
use Rattle.std.proofs.Common.{◌∙◌, zero-add}
use Rattle.std.specs.Prelude.{OnSome, Bool, true, false, cond, ◌&&◌, ◌||◌, List, [], ◌∷◌, eqb, length, Option, None, Some}
use Rattle.std.proofs.Math.Decide.{ℕ_discrete, dec_lt}
use native.Mathlib.Omega.{arith}
use borrow.Author.Tests.{eq-eqb, ne_eqb, lt-ltb, le-ltb, le-leb, lt-leb}
use Rattle.matching.specs.Definitions.Nodes.{Node, has, place}
use Rattle.tables.specs.Definitions.Sizes.{node_size, node_rows, table_size}
use Rattle.tables.specs.Definitions.Tables.{node_from, row_number, nodes_from, nodes_in, first_fault}
use Rattle.tables.proofs.Laws.Accepted.{last_zero, still_zero}
use Rattle.tables.specs.Laws.Find.{RowOf}
use Rattle.reader.specs.declared.Node.{Node as Held}
use Rattle.reader.specs.Definitions.{nth, numbered, missing, sound, refused_row, start_row, row_after, node_at, node_of, as_node, found_of}

-- The row n nodes on: what is refused stays so, and reading stays in the table.
module _ (k n : ℕ) where
  pub after_refused : node_rows < k → row_after k n ≡ k
  unfolding row_after
  after_refused h = rw (lt-ltb node_rows k h)

  pub after_read : k ≤ node_rows → row_after k n ≡ min node_rows (k + n)
  unfolding row_after
  after_read h = rw (le-ltb node_rows k h)

pub after_none : (k : ℕ) → row_after k 0 ≡ k
after_none k = go (dec_lt node_rows k)
  where
    go : Dec (node_rows < k) → row_after k 0 ≡ k
    go (yes h) = after_refused k 0 h
    go (no h) = omega (arith, after_read k 0 (omega arith))

-- Some nodes on, and then others, is all of them on: each row that a reader comes to is so many nodes on from the start.
pub after_again : (k i j : ℕ) → row_after (row_after k i) j ≡ row_after k (i + j)
after_again k i j = go (dec_lt node_rows k)
  where
    go : Dec (node_rows < k) → row_after (row_after k i) j ≡ row_after k (i + j)
    go (yes h) = rw (after_refused k i h, after_refused k j h, after_refused k (i + j) h)
    go (no h) =
        let e = after_read k i (omega arith) in
        omega (arith, e, after_read (row_after k i) j (omega arith), after_read k (i + j) (omega arith))

-- The verdict on a table,
module _ (t : List ℕ) where
  pub unsound_length : (length t ≡ table_size → ⊥) → sound t ≡ false
  unfolding sound
  unsound_length h = ap (λ (b : Bool). b && missing (first_fault t)) (ne_eqb (length t) table_size h)

  sound_fault : length t ≡ table_size → sound t ≡ missing (first_fault t)
  unfolding sound
  sound_fault h = ap (λ (b : Bool). b && missing (first_fault t)) (eq-eqb (length t) table_size h)

  -- by its first fault.
  pub sound_none : length t ≡ table_size → first_fault t ≡ None → sound t ≡ true
  sound_none h e = sound_fault h ∙ ap missing e

  pub sound_row : (k : ℕ) → length t ≡ table_size → first_fault t ≡ Some k → sound t ≡ false
  sound_row k h e = sound_fault h ∙ ap missing e

  pub start_refused : sound t ≡ false → refused_row ≡ start_row t
  unfolding start_row
  start_refused h = rw h

  pub start_first : sound t ≡ true → 0 ≡ start_row t
  unfolding start_row
  start_first h = rw h

  -- A row by cases.
  module _ (k : ℕ) where
    pub node_length : (length t ≡ table_size → ⊥) → None ≡ node_at t k
    unfolding node_at
    node_length h = rw (ne_eqb (length t) table_size h)

    module _ (size : length t ≡ table_size) where
      pub node_behind : node_rows ≤ k → None ≡ node_at t k
      unfolding node_at
      node_behind h = rw (eq-eqb (length t) table_size size, le-ltb k node_rows h)

      pub node_zero : k < node_rows → row_number t k ≡ 0 → None ≡ node_at t k
      unfolding node_at
      node_zero h e = rw (eq-eqb (length t) table_size size, lt-ltb k node_rows h, eq-eqb (row_number t k) 0 e)

      pub node_there : k < node_rows → (row_number t k ≡ 0 → ⊥) → Some (node_from t (node_size * k)) ≡ node_at t k
      unfolding node_at
      node_there h e = rw (eq-eqb (length t) table_size size, lt-ltb k node_rows h, ne_eqb (row_number t k) 0 e)

  module _ (k n : ℕ) where
    pub of_length : (length t ≡ table_size → ⊥) → None ≡ node_of t k n
    unfolding node_of
    of_length h = rw (ne_eqb (length t) table_size h)

    module _ (size : length t ≡ table_size) where
      pub of_refused : node_rows < k → None ≡ node_of t k n
      unfolding node_of
      of_refused h = rw (eq-eqb (length t) table_size size, lt-leb k node_rows h)

      pub of_nodes : k ≤ node_rows → numbered n (nodes_in t) ≡ node_of t k n
      unfolding node_of
      of_nodes h = rw (eq-eqb (length t) table_size size, le-leb k node_rows h)

-- Lists of nodes.
pub nth_behind : (A : List Node) (j : ℕ) → length A ≤ j → nth A j ≡ None
unfolding nth
nth_behind [] j h = refl
nth_behind (v ∷ A) zero h = absurd (omega arith)
nth_behind (v ∷ A) (suc j) h = nth_behind A j (omega arith)

-- What a search by number gives stands at the place of the number.
numbered-none : (n : ℕ) (A : List Node) → has n A ≡ false → numbered n A ≡ None
unfolding has numbered
numbered-none n [] e = refl
numbered-none n (v ∷ A) e = go (eqb v.number n) e (numbered-none n A)
  where
    go : (b : Bool) → (b || has n A) ≡ false → (has n A ≡ false → numbered n A ≡ None) → cond b (Some v) (numbered n A) ≡ None
    go true f r = absurd (let z : ◌≡◌ {A = ℕ} 0 1 = cc in omega arith)
    go false f r = r f

pub numbered_empty : (n : ℕ) → numbered n [] ≡ None
unfolding numbered
numbered_empty n = refl

record Placed (n : ℕ) (A : List Node) : Type 0 where
  pub within : place n A < length A
  pub node : nth A (place n A) ≡ numbered n A

placed : (n : ℕ) (A : List Node) → has n A ≡ true → Placed n A
placed n [] e = unfold has in absurd (let z : ◌≡◌ {A = ℕ} 0 1 = cc in omega arith)
placed n (v ∷ A) e = go (ℕ_discrete v.number n) (placed n A)
  where
    go : Dec (v.number ≡ n) → (has n A ≡ true → Placed n A) → Placed n (v ∷ A)
    go (yes d) r = unfold has place nth numbered in record { within = rw (eq-eqb v.number n d) (omega arith); node = rw (eq-eqb v.number n d) }
    go (no d) r =
        unfold has place nth numbered in
        let p = r (rw (ne_eqb v.number n d) at e) in
        record { within = rw (ne_eqb v.number n d) (omega (arith, p.within)); node = rw (ne_eqb v.number n d) p.node }

module _ (t : List ℕ) (size : length t ≡ table_size) where
  -- Row by row, the nodes of a table: where they end, there is none in the row.
  row_nth : (n k j : ℕ) → k + n ≡ node_rows → (length (nodes_from t k n) ≤ j → node_at t (k + j) ≡ None) → node_at t (k + j) ≡ nth (nodes_from t k n) j
  row_nth zero k j e f = unfold nodes_from nth in f (omega arith)
  row_nth (suc n) k j e f = go (ℕ_discrete (row_number t k) 0) j f (row_nth n (suc k))
    where
      go : Dec (row_number t k ≡ 0) → (j : ℕ) → (length (nodes_from t k (suc n)) ≤ j → node_at t (k + j) ≡ None)
          → ((i : ℕ) → suc k + n ≡ node_rows → (length (nodes_from t (suc k) n) ≤ i → node_at t (suc k + i) ≡ None) → node_at t (suc k + i) ≡ nth (nodes_from t (suc k) n) i)
          → node_at t (k + j) ≡ nth (nodes_from t k (suc n)) j
      go (yes d) j g r = unfold nodes_from nth in rw (eq-eqb (row_number t k) 0 d) (rw (eq-eqb (row_number t k) 0 d) at g (omega arith))
      go (no d) zero g r =
          unfold nodes_from nth in
          let z : k + 0 ≡ k = omega arith in
          rw (ne_eqb (row_number t k) 0 d) (ap (node_at t) z ∙ sym (node_there t k size (omega arith) d))
      go (no d) (suc i) g r =
          unfold nodes_from nth in
          let z : k + suc i ≡ suc k + i = omega arith in
          rw (ne_eqb (row_number t k) 0 d) (ap (node_at t) z ∙ r i (omega arith) (λ l. ap (node_at t) (sym z) ∙ rw (ne_eqb (row_number t k) 0 d) at g (omega arith)))

  row_place : (j : ℕ) → (length (nodes_in t) ≤ j → node_at t j ≡ None) → node_at t j ≡ nth (nodes_in t) j
  unfolding nodes_in
  row_place j f = ap (node_at t) (sym (zero-add j)) ∙ row_nth node_rows 0 j refl (λ l. ap (node_at t) (zero-add j) ∙ f l)

  -- A node found by its row is the one with the number.
  pub row_numbered : (n r : ℕ) → RowOf t n (Some r) → node_at t r ≡ numbered n (nodes_in t)
  row_numbered n r w =
      let p = placed n (nodes_in t) w.known in
      ap (node_at t) w.is ∙ row_place (place n (nodes_in t)) (λ l. absurd (omega (arith, p.within))) ∙ p.node

  pub row_missing : (n : ℕ) → RowOf t n None → None ≡ numbered n (nodes_in t)
  row_missing n w = sym (numbered-none n (nodes_in t) w.known)

  -- A table without a fault: behind a row without a number there is no node.
  module _ (faultless : first_fault t ≡ None) where
    pub row_node : (k : ℕ) → node_at t k ≡ nth (nodes_in t) k
    row_node k = row_place k (go (dec_lt k node_rows))
      where
        go : Dec (k < node_rows) → length (nodes_in t) ≤ k → node_at t k ≡ None
        go (yes h) l = sym (node_zero t k size h (still_zero t faultless (length (nodes_in t)) k l h (last_zero t (omega arith))))
        go (no h) l = sym (node_behind t k size (omega arith))

-- The code's answer taken apart.
pub found_one : (o : Option Node) (v : Held) → found_of o ≡ Some v → o ≡ Some (as_node v)
found_one None v e = absurd (let z : ◌≡◌ {A = ℕ} 0 1 = cc in omega arith)
found_one (Some w) v e = let i : ◌≡◌ {A = Held} (record { number = w.number; x = w.x; y = w.y; capacity = w.capacity; sort = w.sort }) v = cc in ap (λ (u : Held). Some (as_node u)) i

pub found_nothing : (o : Option Node) → found_of o ≡ None → o ≡ None
found_nothing None e = refl
found_nothing (Some w) e = absurd (let z : ◌≡◌ {A = ℕ} 0 1 = cc in omega arith)

-- Where there is a node, its row is one of the table's.
module _ (t : List ℕ) (k : ℕ) where
  found_row : (v : Held) → found_of (node_at t k) ≡ Some v → k < node_rows
  found_row v e = go (ℕ_discrete (length t) table_size) (dec_lt k node_rows)
    where
      none : None ≡ node_at t k → ⊥
      none d = let z : ◌≡◌ {A = Option Held} None (Some v) = ap found_of d ∙ e in absurd (let i : ◌≡◌ {A = ℕ} 0 1 = cc in omega arith)

      go : Dec (length t ≡ table_size) → Dec (k < node_rows) → k < node_rows
      go l (yes h) = h
      go (yes l) (no h) = absurd (none (node_behind t k l (omega arith)))
      go (no l) (no h) = absurd (none (node_length t k l))

  pub goes_on : {P : Type 0} (r : Option Held) → r ≡ found_of (node_at t k) → (k < node_rows → P) → OnSome r P
  goes_on None e f = tt
  goes_on (Some v) e f = f (found_row v (sym e))
