-- What a reader gives: by number, and from the start on.
use Rattle.std.specs.Prelude.{ℕ, zero, suc, ◌+◌, ◌<◌, ◌≤◌, Bool, false, List, [], ◌∷◌, ◌++◌, map, eqb, length, replicate, Option, None, Some}
use Rattle.std.proofs.Math.Path.{◌≡◌, refl, ap}
use Rattle.std.proofs.Common.{sym, ◌∙◌, ap₂, zero-add, add-one, arith}
use Rattle.std.proofs.Math.Bool.{true, cond}
use Rattle.std.proofs.Math.Decide.{ℕ_discrete, dec_lt}
use borrow.Author.Tests.{eqb-true}
use Rattle.matching.specs.Definitions.Nodes.{Node}
use Rattle.matching.specs.Definitions.Columns.{tabulate}
use Rattle.tables.specs.Definitions.Sizes.{node_rows, table_size}
use Rattle.tables.specs.Definitions.Tables.{nodes_in, first_fault}
use Rattle.tables.specs.Laws.Rows.{and_split}
use Rattle.tables.proofs.Laws.Accepted.{room}
use Rattle.reader.specs.Definitions.{nth, numbered, missing, sound, readable, refused_row, start_row, row_after, node_at, node_of}
use Rattle.reader.proofs.Laws.{after_refused, after_read, after_none, after_again, start_refused, start_first, node_length, node_behind, of_length, of_refused, of_nodes, nth_behind, numbered_empty, row_node}

-- A sound table, as the definition of a faulty row puts it.
record Sound (t : List ℕ) : Type 0 where
  pub size : length t ≡ table_size
  pub faultless : first_fault t ≡ None

sound_is : (t : List ℕ) → sound t ≡ true → Sound t
sound_is t e = unfold sound in
    let s = and_split (eqb (length t) table_size) (missing (first_fault t)) e in
    record { size = eqb-true (length t) table_size s.0; faultless = go (first_fault t) s.1 }
  where
    go : (o : Option ℕ) → missing o ≡ true → o ≡ None
    go None e = refl
    go (Some k) e = absurd (let z : ◌≡◌ {A = ℕ} 0 1 = cc in omega arith)

module _ (t : List ℕ) where
  readable-sound : sound t ≡ true → readable t ≡ nodes_in t
  unfolding readable
  readable-sound e = ap (λ (b : Bool). cond b (nodes_in t) []) e

  -- A table that is not sound gives nothing.
  pub readable_none : sound t ≡ false → readable t ≡ []
  unfolding readable
  readable_none e = ap (λ (b : Bool). cond b (nodes_in t) []) e

  pub readable_room : length (readable t) ≤ node_rows
  readable_room = go (sound t) refl
    where
      go : (b : Bool) → sound t ≡ b → length (readable t) ≤ node_rows
      go true e = omega (arith, ap length (readable-sound e), room t)
      go false e = omega (arith, ap length (readable_none e))

  refused_node : node_at t refused_row ≡ None
  refused_node = go (ℕ_discrete (length t) table_size)
    where
      go : Dec (length t ≡ table_size) → node_at t refused_row ≡ None
      go (yes e) = sym (node_behind t refused_row e (omega arith))
      go (no e) = sym (node_length t refused_row e)

  refused_number : (n : ℕ) → node_of t refused_row n ≡ None
  refused_number n = go (ℕ_discrete (length t) table_size)
    where
      go : Dec (length t ≡ table_size) → node_of t refused_row n ≡ None
      go (yes e) = sym (of_refused t refused_row n e (omega arith))
      go (no e) = sym (of_length t refused_row n e)

  -- The row k nodes behind the first has node k, or there is none.
  first_on : Sound t → (k : ℕ) → node_at t (row_after 0 k) ≡ nth (nodes_in t) k
  first_on s k = go (dec_lt node_rows k)
    where
      go : Dec (node_rows < k) → node_at t (row_after 0 k) ≡ nth (nodes_in t) k
      go (yes h) =
          sym (node_behind t (row_after 0 k) s.size (omega (arith, after_read 0 k (omega arith))))
          ∙ sym (nth_behind (nodes_in t) k (omega (arith, room t)))
      go (no h) =
          let e : row_after 0 k ≡ k = omega (arith, after_read 0 k (omega arith)) in
          ap (node_at t) e ∙ row_node t s.size s.faultless k

  pub read_on : (k : ℕ) → node_at t (row_after (start_row t) k) ≡ nth (readable t) k
  read_on k = go (sound t) refl
    where
      go : (b : Bool) → sound t ≡ b → node_at t (row_after (start_row t) k) ≡ nth (readable t) k
      go true e =
          ap (λ (i : ℕ). node_at t (row_after i k)) (sym (start_first t e))
          ∙ first_on (sound_is t e) k
          ∙ ap (λ (A : List Node). nth A k) (sym (readable-sound e))
      go false e =
          ap (λ (i : ℕ). node_at t (row_after i k)) (sym (start_refused t e))
          ∙ ap (node_at t) (after_refused refused_row k (omega arith))
          ∙ refused_node
          ∙ sym (nth_behind [] k (omega arith))
          ∙ ap (λ (A : List Node). nth A k) (sym (readable_none e))

  -- A search is one among the nodes, however many nodes on from the start the reader is,
  pub find_on : (k n : ℕ) → node_of t (row_after (start_row t) k) n ≡ numbered n (readable t)
  find_on k n = go (sound t) refl
    where
      go : (b : Bool) → sound t ≡ b → node_of t (row_after (start_row t) k) n ≡ numbered n (readable t)
      go true e =
          ap (λ (i : ℕ). node_of t (row_after i k) n) (sym (start_first t e))
          ∙ sym (of_nodes t (row_after 0 k) n (sound_is t e).size (omega (arith, after_read 0 k (omega arith))))
          ∙ ap (numbered n) (sym (readable-sound e))
      go false e =
          ap (λ (i : ℕ). node_of t (row_after i k) n) (sym (start_refused t e))
          ∙ ap (λ (i : ℕ). node_of t i n) (after_refused refused_row k (omega arith))
          ∙ refused_number n
          ∙ sym (numbered_empty n)
          ∙ ap (numbered n) (sym (readable_none e))

  -- and so is one from the start.
  pub find_first : (n : ℕ) → node_of t (start_row t) n ≡ numbered n (readable t)
  find_first n = ap (λ (i : ℕ). node_of t i n) (sym (after_none (start_row t))) ∙ find_on 0 n

-- What reading gives m times from row k on, one node on each time.
unfoldable pub reads : List ℕ → ℕ → ℕ → List (Option Node)
reads t k zero = []
reads t k (suc m) = node_at t k ∷ reads t (row_after k 1) m

reads-nth : (t : List ℕ) (m i : ℕ) → reads t (row_after (start_row t) i) m ≡ tabulate (nth (readable t)) i m
unfolding reads tabulate
reads-nth t zero i = refl
reads-nth t (suc m) i =
    ap₂ (λ (o : Option Node) (l : List (Option Node)). o ∷ l) (read_on t i)
    (ap (λ (k : ℕ). reads t k m) (after_again (start_row t) i 1 ∙ ap (row_after (start_row t)) (add-one i)) ∙ reads-nth t m (suc i))

nths_none : (m i : ℕ) → tabulate (nth []) i m ≡ replicate m None
unfolding tabulate nth
nths_none zero i = refl
nths_none (suc m) i = ap (λ (l : List (Option Node)). None ∷ l) (nths_none m (suc i))

nths_rest : (v : Node) (A : List Node) (m i : ℕ) → tabulate (nth (v ∷ A)) (suc i) m ≡ tabulate (nth A) i m
unfolding tabulate nth
nths_rest v A zero i = refl
nths_rest v A (suc m) i = ap (λ (l : List (Option Node)). nth A i ∷ l) (nths_rest v A m (suc i))

nths_more : (v : Node) (A : List Node) (m : ℕ) → tabulate (nth (v ∷ A)) 0 (suc (length A) + m) ≡ Some v ∷ tabulate (nth A) 0 (length A + m)
unfolding tabulate nth
nths_more v A m =
    let e : suc (length A) + m ≡ suc (length A + m) = omega arith in
    ap (tabulate (nth (v ∷ A)) 0) e ∙ ap (λ (l : List (Option Node)). Some v ∷ l) (nths_rest v A (length A + m) 0)

nths_all : (A : List Node) (m : ℕ) → tabulate (nth A) 0 (length A + m) ≡ map Some A ++ replicate m None
nths_all [] m = ap (tabulate (nth []) 0) (zero-add m) ∙ nths_none m 0
nths_all (v ∷ A) m = nths_more v A m ∙ ap (λ (l : List (Option Node)). Some v ∷ l) (nths_all A m)

-- Reading from the start gives exactly the nodes, in row order, and then none for ever.
pub reads_all : (t : List ℕ) (m : ℕ) → reads t (start_row t) (length (readable t) + m) ≡ map Some (readable t) ++ replicate m None
reads_all t m =
    ap (λ (k : ℕ). reads t k (length (readable t) + m)) (sym (after_none (start_row t)))
    ∙ reads-nth t (length (readable t) + m) 0
    ∙ nths_all (readable t) m
