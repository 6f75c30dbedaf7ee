-- The bytes of a drawing whose nodes are good, and an edit of it.
use Rattle.std.specs.Prelude.{ℕ, ◌≤◌, ◌≡◌, refl, List, length}
use Rattle.std.proofs.Math.Path.{sym}
use Rattle.std.proofs.Common.{◌∙◌, arith}
use Rattle.std.proofs.Math.Seq.{take_all}
use Rattle.matching.specs.declared.Master.{Master}
use Rattle.matching.specs.declared.Master.TheVariants.{A as master_a, B as master_b}
use Rattle.matching.specs.Definitions.Nodes.{each, Node}
use Rattle.tables.specs.Definitions.Sizes.{list_size, link_rows}
use Rattle.tables.specs.Definitions.Tables.{nodes_in, table_bytes, GoodNodes}
use Rattle.tables.specs.Definitions.Lists.{list_bytes, finished}
use Rattle.tables.specs.Definitions.Edits.{master_of, edit_nodes, edit_table}
use Rattle.tables.proofs.Laws.Tables.{table_nodes, table_length}
use Rattle.tables.specs.Laws.Lists.{list_length}
use Rattle.tables.proofs.Laws.Edits.{Passes, edit_table_lem}
use Rattle.tables.proofs.Laws.Edited.{edit_good}
use Rattle.contract.specs.Definitions.Buffers.{paired, lengths_of, stated_lengths, Drawing, Good, links, drawn, buffers, master_named, nodes_named}
use Rattle.contract.specs.Definitions.Requests.{edited, redrawn}
use Rattle.contract.specs.Definitions.Claims.{RowsAhead}
use Rattle.contract.proofs.Laws.Lists.{join_room, join_good}
use Rattle.contract.proofs.Laws.Locality.{edit_rows}

module _ (d : Drawing) (g : Good d) where
  pub drawn_room : length (links d) ≤ link_rows
  drawn_room = join_room d.a d.b (g master_a) (g master_b)

  pub drawn_lengths : lengths_of (buffers d) ≡ stated_lengths
  unfolding buffers
  drawn_lengths = λ i. record {
    a = table_length d.a (g master_a).room i;
    b = table_length d.b (g master_b).room i;
    list = list_length (links d) drawn_room i;
  }

  -- The nodes are read back,
  pub drawn_nodes : (s : Master) → nodes_in (table_bytes (each d.a d.b s)) ≡ each d.a d.b s
  drawn_nodes s = table_nodes (each d.a d.b s) (g s)

  pub drawn_back : drawn (buffers d) ≡ d
  unfolding buffers
  drawn_back = λ i. record { a = drawn_nodes master_a i; b = drawn_nodes master_b i }

  -- and the list is the finished one.
  pub drawn_list : finished (table_bytes d.a) (table_bytes d.b) ≡ list_bytes (links d)
  unfolding finished
  drawn_list = rw (drawn_nodes master_a, drawn_nodes master_b)

  pub drawn_paired : paired (buffers d).a (buffers d).b ≡ buffers d
  unfolding buffers
  drawn_paired = rw drawn_list

-- An edit in the table of one master.
record Sides (e : List ℕ) (A B : List Node) (s : Master) : Type 0 where
  on_a : each (edit_table e (table_bytes A)) (table_bytes A) s ≡ table_bytes (each (edit_nodes e A) A s)
  on_b : each (table_bytes B) (edit_table e (table_bytes B)) s ≡ table_bytes (each B (edit_nodes e B) s)
  good : (t : Master) → GoodNodes (each (each (edit_nodes e A) A s) (each B (edit_nodes e B) s) t)

sides : (e : List ℕ) (A B : List Node) (s : Master) → ((t : Master) → GoodNodes (each A B t)) → Passes e (each A B s) → Sides e A B s
sides e A B master_a g p = record { on_a = edit_table_lem e A (g master_a) p; on_b = refl; good = both }
  where
    both : (t : Master) → GoodNodes (each (edit_nodes e A) B t)
    both master_a = edit_good e A (g master_a) p
    both master_b = g master_b
sides e A B master_b g p = record { on_a = refl; on_b = edit_table_lem e B (g master_b) p; good = both }
  where
    both : (t : Master) → GoodNodes (each A (edit_nodes e B) t)
    both master_a = g master_a
    both master_b = edit_good e B (g master_b) p

module _ (d : Drawing) (g : Good d) (e : List ℕ) (p : Passes e (nodes_named d (master_of e))) where
  pub redrawn_good : Good (redrawn e d)
  unfolding redrawn
  redrawn_good = (sides e d.a d.b (master_named (master_of e)) g p).good

  -- The bytes edited are those of the drawing redrawn.
  pub edited_drawn : edited e (buffers d) ≡ buffers (redrawn e d)
  unfolding edited redrawn buffers
  edited_drawn =
      let s = sides e d.a d.b (master_named (master_of e)) g p in
      rw (s.on_a, s.on_b) (drawn_paired (redrawn e d) redrawn_good)

  -- An edit done keeps the rows ahead.
  pub list_ahead : RowsAhead e (list_bytes (links d)) (list_bytes (links (redrawn e d)))
  unfolding redrawn
  list_ahead =
      let g' = redrawn_good in
      let k = join_good d.a d.b (g master_a) (g master_b) in
      let k' = join_good (redrawn e d).a (redrawn e d).b (g' master_a) (g' master_b) in
      let s : Master = master_named (master_of e) in
      let rows = edit_rows e d.a d.b s (g s) p k k' in
      record {
        ahead = rows;
        all = λ h i.
            sym (take_all list_size (list_bytes (links d)) (omega (arith, list_length (links d) (drawn_room d g))))
            ∙ rows link_rows h i
            ∙ take_all list_size (list_bytes (links (redrawn e d))) (omega (arith, list_length (links (redrawn e d)) (drawn_room (redrawn e d) g')));
      }
