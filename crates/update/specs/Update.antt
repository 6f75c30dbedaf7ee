-- A set of rows beside tables of which one was edited.
use Rattle.std.specs.Prelude.{ℕ, ◌≤◌, ◌≡◌, cond, List, eqb, ℤ, length}
use Rattle.matching.specs.Definitions.Rows.{Sorts, spans_of, nodes_on, Fits, Represents}
use Rattle.matching.specs.Definitions.Lists.{Reordered}
use Rattle.matching.specs.declared.Master.{Master}
use Rattle.matching.specs.declared.Master.TheVariants.{A as master_a, B as master_b}
use Rattle.matching.specs.Definitions.Nodes.{each, of_sort}
use Rattle.matching.specs.Definitions.Edits.{depart}
use Rattle.tables.specs.Definitions.Sizes.{table_size, edit_size}
use Rattle.tables.specs.Definitions.Tables.{nodes_in, GoodNodes}
use Rattle.tables.specs.Definitions.Edits.{master_of, number_of}
use Rattle.stability.specs.Barred.{Barred}
use Rattle.load.specs.Load.{Free}

-- The master that an edit names.
abbrev pub named : List ℕ → Master
named e = cond (eqb (master_of e) 0) master_a master_b

-- The edited master's nodes differ from its rows in the edited node alone, sort by sort; the other's are its rows. Limits L bar every pair.
pub record Edited (a b e ns : List ℕ) (at : List (List ℤ)) (cs : List ℕ) (S : Sorts) (L : List ℕ) : Type 0 where
  pub size_a : length a ≡ table_size
  pub size_b : length b ≡ table_size
  pub size_e : length e ≡ edit_size
  pub fits : Fits ns at cs S
  pub free : Free S
  pub good : (m : Master) → GoodNodes (nodes_in (each a b m))
  pub edited : (u : ℕ) → u ≤ 1
      → Reordered (depart (number_of e) (of_sort u (nodes_in (each a b (named e))))) (depart (number_of e) (nodes_on u (spans_of S u) ns at cs (named e)))
  pub other : (u : ℕ) → u ≤ 1 → (m : Master) → (m ≡ named e → ⊥) → Reordered (of_sort u (nodes_in (each a b m))) (nodes_on u (spans_of S u) ns at cs m)
  pub barred : Barred ns at S L

-- The rows are the tables' nodes again.
pub record Updated (a b ns : List ℕ) (at : List (List ℤ)) (cs : List ℕ) (S : Sorts) (L : List ℕ) : Type 0 where
  pub rows : Represents (nodes_in a) (nodes_in b) ns at cs S
  pub barred : Barred ns at S L
