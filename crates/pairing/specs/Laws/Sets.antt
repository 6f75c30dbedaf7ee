-- Tables in the set: before an edit, and after it.
use Rattle.std.specs.Prelude.{ℕ, ◌≡◌, refl, List, ℤ, length, replicate}
use Rattle.std.proofs.Common.{sym, ◌∙◌, ap, arith}
use Rattle.std.proofs.Math.Path.{subst⁻¹}
use Rattle.std.proofs.lemmas.List.{get_or-replicate, length-replicate}
use Rattle.matching.specs.Definitions.Rows.{Sorts, spans_of, nodes_on, Spanned, Represents}
use Rattle.matching.specs.Definitions.Lists.{Reordered}
use Rattle.matching.specs.declared.Master.{Master}
use Rattle.matching.specs.declared.Master.TheVariants.{A as master_a, B as master_b}
use Rattle.matching.specs.Definitions.Nodes.{each, Node, Unique, of_sort}
use Rattle.matching.specs.Definitions.Edits.{depart}
use Rattle.matching.specs.Definitions.Sizes.{set_rows}
use Rattle.matching.proofs.Laws.Sorts.{unique_of_sort}
use Rattle.tables.specs.Definitions.Sizes.{edit_size}
use Rattle.tables.specs.Definitions.Fields.{Bytes}
use Rattle.tables.specs.Definitions.Tables.{nodes_in, Accepted, GoodNodes}
use Rattle.tables.specs.Definitions.Edits.{master_of, number_of, edit_nodes, edit_table}
use Rattle.tables.proofs.Laws.Accepted.{nodes_good}
use Rattle.tables.proofs.Laws.Edits.{Passes}
use Rattle.tables.proofs.Laws.Edited.{edit_good}
use Rattle.tables.proofs.Laws.Tables.{table_nodes}
use Rattle.stability.specs.Barred.{Barred, barred_fresh}
use Rattle.load.specs.Load.{Loaded}
use Rattle.load.specs.Laws.Represents.{loaded_represents}
use Rattle.update.specs.Update.{Edited}
use Rattle.update.specs.Departures.{depart_reordered, depart_sort, depart_edit}
use Rattle.contract.specs.Definitions.Buffers.{master_named}
use Rattle.contract.proofs.Laws.Programs.{edit_is, edited_accepted}
use Rattle.verdicts.specs.Edit.{Changed}
use Rattle.pairing.specs.Verdicts.{Sound}
use Rattle.pairing.specs.Laws.Verdicts.{accepted_a, accepted_b}

-- Limits of 0 bar every pair.
pub no_limits : {ns : List ℕ} {at : List (List ℤ)} {s : Sorts} → ((u : ℕ) → Spanned (spans_of s u)) → Barred ns at s (replicate set_rows 0)
no_limits p = barred_fresh (length-replicate {A = ℕ} set_rows 0) (λ u i h. get_or-replicate {A = ℕ} set_rows i 0 0 (omega (arith, h.1, (p u).below)))

-- The set represents the nodes of sound tables.
pub sound_represents : {a b ns : List ℕ} {at : List (List ℤ)} {cs : List ℕ} {s : Sorts} → Sound a b → Bytes a → Bytes b → Loaded a b ns at cs s → Represents (nodes_in a) (nodes_in b) ns at cs s
sound_represents {a} {b} f ba bb h = loaded_represents h (accepted_a a b f ba bb) (accepted_b a b f ba bb)

-- An edit changes the nodes of its table,
edited_nodes : (e t : List ℕ) → Accepted t → Passes e (nodes_in t) → nodes_in (edit_table e t) ≡ edit_nodes e (nodes_in t)
edited_nodes e t h p = ap nodes_in (edit_is e t h p) ∙ table_nodes (edit_nodes e (nodes_in t)) (edit_good e (nodes_in t) (nodes_good t h) p)

-- and the set is then that of before it.
module _ (e a b : List ℕ) (f : Sound a b) (ba : Bytes a) (bb : Bytes b) (p : Passes e (each (nodes_in a) (nodes_in b) (master_named (master_of e)))) (a' b' : List ℕ) (c : Changed e a b a' b') where
  ha : Accepted a
  ha = accepted_a a b f ba bb

  hb : Accepted b
  hb = accepted_b a b f ba bb

  good_before : (m : Master) → Unique (nodes_in (each a b m))
  good_before master_a = (nodes_good a ha).unique
  good_before master_b = (nodes_good b hb).unique

  after : (m : Master) → Passes e (each (nodes_in a) (nodes_in b) m) → a' ≡ each (edit_table e a) a m → b' ≡ each b (edit_table e b) m
      → depart (number_of e) (nodes_in (each a' b' m)) ≡ depart (number_of e) (nodes_in (each a b m))
  after master_a q x y = ap (depart (number_of e)) (ap nodes_in x ∙ edited_nodes e a ha q) ∙ depart_edit e (nodes_in a) (nodes_good a ha).unique q
  after master_b q x y = ap (depart (number_of e)) (ap nodes_in y ∙ edited_nodes e b hb q) ∙ depart_edit e (nodes_in b) (nodes_good b hb).unique q

  stays : (m o : Master) → a' ≡ each (edit_table e a) a m → b' ≡ each b (edit_table e b) m → (o ≡ m → ⊥) → nodes_in (each a' b' o) ≡ nodes_in (each a b o)
  stays master_a master_a x y d = absurd (d refl)
  stays master_a master_b x y d = ap nodes_in y
  stays master_b master_a x y d = ap nodes_in x
  stays master_b master_b x y d = absurd (d refl)

  both : Accepted a' × Accepted b'
  both = rw (c.in_a, c.in_b) (edited_accepted e a b ha hb (master_named (master_of e)) p)

  pub edited_set : {ns : List ℕ} {at : List (List ℤ)} {cs : List ℕ} {s : Sorts} {K : List ℕ} → length e ≡ edit_size → Loaded a b ns at cs s → Barred ns at s K → Edited a' b' e ns at cs s K
  edited_set {ns} {at} {cs} {s} size h k = record {
    size_a = both.0.size;
    size_b = both.1.size;
    size_e = size;
    fits = (loaded_represents h ha hb).fits;
    free = h.free;
    good = good;
    edited = λ u l. subst⁻¹ (λ (A : List Node). Reordered A (depart (number_of e) (nodes_on u (spans_of s u) ns at cs m))) (sorted u)
        (depart_reordered (h.rows.nodes u l m) (unique_of_sort u (nodes_in (each a b m)) (good_before m)) (number_of e));
    other = λ u l o d. subst⁻¹ (λ (A : List Node). Reordered (of_sort u A) (nodes_on u (spans_of s u) ns at cs o)) (stays m o c.in_a c.in_b d) (h.rows.nodes u l o);
    barred = k;
  }
    where
      m : Master
      m = master_named (master_of e)

      good : (o : Master) → GoodNodes (nodes_in (each a' b' o))
      good master_a = nodes_good a' both.0
      good master_b = nodes_good b' both.1

      sorted : (u : ℕ) → depart (number_of e) (of_sort u (nodes_in (each a' b' m))) ≡ depart (number_of e) (of_sort u (nodes_in (each a b m)))
      sorted u =
          depart_sort u (number_of e) (nodes_in (each a' b' m)) (good m).unique
          ∙ ap (of_sort u) (after m p c.in_a c.in_b)
          ∙ sym (depart_sort u (number_of e) (nodes_in (each a b m)) (good_before m))
