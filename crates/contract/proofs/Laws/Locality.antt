-- An edit changes no row ahead of the first that names the edited node, in bytes.
use Rattle.std.specs.Prelude.{ℕ, zero, suc, ◌+◌, ◌*◌, ◌-◌, ◌<◌, ◌≡◌, List, [], ◌∷◌, ◌++◌, length, take, drop}
use Rattle.std.proofs.Common.{sym, ◌∙◌, ap, subst, append_assoc, arith}
use Rattle.std.proofs.Math.Seq.{drop-append-add}
use Rattle.matching.specs.Definitions.Lists.{All}
use Rattle.matching.specs.declared.Master.{Master}
use Rattle.matching.specs.declared.Master.TheVariants.{A as master_a, B as master_b}
use Rattle.matching.specs.Definitions.Nodes.{each, Node}
use Rattle.matching.specs.Definitions.Links.{Link}
use Rattle.matching.specs.Definitions.Join.{join}
use Rattle.matching.proofs.Laws.Without.{join_from}
use Rattle.matching.proofs.Theorems.Locality.{Names, Local, local_take}
use Rattle.matching.proofs.Theorems.Locality as locality
use Rattle.tables.specs.Definitions.Sizes.{link_size, list_size}
use Rattle.tables.specs.Definitions.Rows.{flat, padded}
use Rattle.tables.specs.Definitions.Tables.{node_from, GoodNodes}
use Rattle.tables.specs.Definitions.Lists.{link_bytes, list_bytes, link_from}
use Rattle.tables.specs.Definitions.Edits.{number_of, edit_node, edit_nodes}
use Rattle.tables.specs.Laws.Rows.{zeros}
use Rattle.tables.specs.Laws.Lists.{GoodLink, link_length, link_drop, link_read}
use Rattle.tables.proofs.Laws.Edits.{Passes, Kind, arrival, departure, move, capacity, kind_cases, is_known}
use Rattle.tables.proofs.Laws.Edited.{fresh}
use Rattle.contract.proofs.Laws.Kept.{same_rows}

-- The first n rows of a list are no P.
abbrev pub Free : (Link → Type 0) → List ℕ → ℕ → Type 0
Free P l n = (k : ℕ) → k < n → ¬ P (link_from l (link_size * k))

-- Then no leading link is.
free_links : (P : Link → Type 0) (K : List Link) (m n : ℕ) → All GoodLink K → Free P (flat link_bytes K ++ zeros m) n → All (λ l. ¬ P l) (take n K)
unfolding flat
free_links P [] m zero g f = tt
free_links P [] m (suc n) g f = tt
free_links P (l ∷ K) m zero g f = tt
free_links P (l ∷ K) m (suc n) g f = (
  (λ p. f 0 (omega arith) (subst P (sym first) p)),
  free_links P K m n g.1 (λ k h p. f (suc k) (omega arith) (subst P (sym (next k)) p)),
)
  where
    R : List ℕ
    R = flat link_bytes K ++ zeros m

    split : flat link_bytes (l ∷ K) ++ zeros m ≡ link_bytes l ++ R
    split = append_assoc (link_bytes l) (flat link_bytes K) (zeros m)

    first : link_from (flat link_bytes (l ∷ K) ++ zeros m) 0 ≡ l
    first = ap (λ (r : List ℕ). link_from r 0) split ∙ link_read l R g.0

    next : (k : ℕ) → link_from (flat link_bytes (l ∷ K) ++ zeros m) (link_size * suc k) ≡ link_from R (link_size * k)
    next k =
        link_drop (flat link_bytes (l ∷ K) ++ zeros m) (link_size * suc k)
        ∙ ap (λ (r : List ℕ). link_from r 0) (ap (drop (link_size * suc k)) split ∙ ap (λ (i : ℕ). drop i (link_bytes l ++ R)) rows ∙ drop-append-add (link_bytes l) R (link_size * k))
        ∙ sym (link_drop R (link_size * k))
      where
        rows : link_size * suc k ≡ length (link_bytes l) + link_size * k
        rows = omega (arith, link_length l)

local_rows : {P : Link → Type 0} {K J : List Link} → All GoodLink K → All GoodLink J → Local P K J
    → (n : ℕ) → Free P (list_bytes K) n → Free P (list_bytes J) n → take (link_size * n) (list_bytes K) ≡ take (link_size * n) (list_bytes J)
unfolding list_bytes padded
local_rows {P} {K} {J} hk hj d n f g = same_rows K J n (local_take d n
    (free_links P K (list_size - length (flat link_bytes K)) n hk f) (free_links P J (list_size - length (flat link_bytes J)) n hj g))

-- The joins before and after an edit of the nodes X of the master s.
module _ (e : List ℕ) (s : Master) (X Y : List Node) (g : GoodNodes X) (p : Passes e X) where
  by_kind : Kind e → Local (Names s (number_of e)) (join_from s X Y) (join_from s (edit_nodes e X) Y)
  unfolding edit_nodes edit_node node_from number_of
  by_kind (arrival k) = rw k (locality.arrival s Y X (edit_node e) (fresh e X g p k))
  by_kind (departure k) = rw k (locality.departure s Y X (number_of e) g.unique (is_known e X g p (omega arith)))
  by_kind (move k) = rw k (locality.move s Y X (number_of e) (edit_node e).x (edit_node e).y g.unique (is_known e X g p (omega arith)))
  by_kind (capacity k) = rw k (locality.resize s Y X (number_of e) (edit_node e).capacity (edit_node e).sort g.unique (is_known e X g p (omega arith)))

  local_from : Local (Names s (number_of e)) (join_from s X Y) (join_from s (edit_nodes e X) Y)
  local_from = by_kind (kind_cases e p.least p.most)

edit_local : (e : List ℕ) (A B : List Node) (s : Master) → GoodNodes (each A B s) → Passes e (each A B s)
    → Local (Names s (number_of e)) (join A B) (join (each (edit_nodes e A) A s) (each B (edit_nodes e B) s))
edit_local e A B master_a g p = local_from e master_a A B g p
edit_local e A B master_b g p = local_from e master_b B A g p

-- The rows ahead of the first that names the node, before or after the edit, are the same.
module _ (e : List ℕ) (A B : List Node) (s : Master) where
  abbrev A' : List Node
  A' = each (edit_nodes e A) A s

  abbrev B' : List Node
  B' = each B (edit_nodes e B) s

  pub edit_rows : GoodNodes (each A B s) → Passes e (each A B s) → All GoodLink (join A B) → All GoodLink (join A' B')
      → (n : ℕ) → Free (Names s (number_of e)) (list_bytes (join A B)) n → Free (Names s (number_of e)) (list_bytes (join A' B')) n
      → take (link_size * n) (list_bytes (join A B)) ≡ take (link_size * n) (list_bytes (join A' B'))
  edit_rows g p hk hj = local_rows hk hj (edit_local e A B s g p)
