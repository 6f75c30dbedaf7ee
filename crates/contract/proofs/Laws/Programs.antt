-- For programs: what is known of the lent bytes where a call is not refused.
use Rattle.std.specs.Prelude.{ℕ, ◌*◌, ◌<◌, ◌≡◌, refl, Bool, true, false, cond, not, List, ◌++◌, length, take, drop, None, Some}
use Rattle.std.proofs.Common.{sym, ◌∙◌, ap, arith}
use Rattle.matching.specs.declared.Master.{Master}
use Rattle.matching.specs.declared.Master.TheVariants.{A as master_a, B as master_b}
use Rattle.matching.specs.Definitions.Nodes.{each}
use Rattle.matching.specs.Definitions.Links.{common}
use Rattle.tables.specs.Definitions.Sizes.{link_size, list_size}
use Rattle.tables.specs.Definitions.Fields.{Bytes}
use Rattle.tables.specs.Definitions.Tables.{nodes_in, table_bytes, Accepted}
use Rattle.tables.specs.Definitions.Lists.{list_bytes, finished, first_difference, zero_from}
use Rattle.tables.specs.Definitions.Edits.{edit_nodes, edit_table}
use Rattle.tables.proofs.Laws.Accepted.{nodes_table, nodes_good}
use Rattle.tables.proofs.Laws.Faultless.{table_accepted}
use Rattle.tables.specs.Laws.Lists.{list_length, list_bytes_lem}
use Rattle.tables.proofs.Laws.ListCode.{common_anew}
use Rattle.tables.proofs.Laws.Edits.{Passes, edit_table_lem}
use Rattle.tables.proofs.Laws.Edited.{edit_good}
use Rattle.contract.specs.Definitions.Buffers.{Buffers, paired, lengths_of, links_of}
use Rattle.contract.specs.Definitions.Requests.{step_shape}
use Rattle.contract.specs.Definitions.Refusals.{damaged_row}
use Rattle.contract.proofs.Laws.Conditions.{stated}
use Rattle.contract.proofs.Laws.Refusals.{Passed}
use Rattle.contract.proofs.Laws.Lists.{links_room}
use Rattle.contract.proofs.Laws.Leading.{leading_missing, leading_list}

-- The finished list of any two tables has the stated length, and holds bytes.
pub finished-length : (a b : List ℕ) → length (finished a b) ≡ list_size
unfolding finished
finished-length a b = list_length (links_of (paired a b)) (links_room a b)

pub finished_bytes : (a b : List ℕ) → Bytes (finished a b)
unfolding finished
finished_bytes a b = list_bytes_lem (links_of (paired a b))

-- An edited table is that of the edited nodes,
pub edit_is : (e t : List ℕ) → Accepted t → Passes e (nodes_in t) → edit_table e t ≡ table_bytes (edit_nodes e (nodes_in t))
edit_is e t h p = ap (edit_table e) (nodes_table t h) ∙ edit_table_lem e (nodes_in t) (nodes_good t h) p

-- is accepted again,
pub edit_accepted : (e t : List ℕ) → Accepted t → Passes e (nodes_in t) → Accepted (edit_table e t)
edit_accepted e t h p = rw (edit_is e t h p) (table_accepted (edit_nodes e (nodes_in t)) (edit_good e (nodes_in t) (nodes_good t h) p))

-- and so are both tables.
pub edited_accepted : (e a b : List ℕ) → Accepted a → Accepted b → (s : Master) → Passes e (each (nodes_in a) (nodes_in b) s)
    → Accepted (each (edit_table e a) a s) × Accepted (each b (edit_table e b) s)
edited_accepted e a b ha hb master_a p = (edit_accepted e a ha p, hb)
edited_accepted e a b ha hb master_b p = (ha, edit_accepted e b hb p)

-- The list after an edit: the rows kept of the list before, and then the new rows.
pub edit_list : (a b a' b' : List ℕ)
    → finished a' b' ≡ take (link_size * common (links_of (paired a b)) (links_of (paired a' b'))) (finished a b) ++ drop (link_size * common (links_of (paired a b)) (links_of (paired a' b'))) (finished a' b')
unfolding finished
edit_list a b a' b' = sym (common_anew (links_of (paired a b)) (links_of (paired a' b')))

-- Step has a leading part of the finished list: where a row differs, a link is missing.
pub has_leading : (h : Buffers) → Passed (lengths_of h) step_shape h → (k : ℕ) → first_difference h.list (finished h.a h.b) ≡ Some k
    → (k < length (links_of h)) × (h.list ≡ list_bytes (take k (links_of h)))
unfolding finished damaged_row
has_leading h u k d = go (zero_from h.list k) refl (rw d at u.undamaged)
  where
    go : (t : Bool) → zero_from h.list k ≡ t → cond (not t) (Some k) None ≡ None → (k < length (links_of h)) × (h.list ≡ list_bytes (take k (links_of h)))
    go true z g =
        let r = links_room h.a h.b in
        let s = (stated (lengths_of h) step_shape u.lengths).list in
        (leading_missing h.list (links_of h) s r k d z, leading_list h.list (links_of h) s r k d z)
    go false z g = absurd (let c : ◌≡◌ {A = ℕ} 0 1 = cc in omega arith)
