-- Laws of a set's rows of both sorts.
use Prim.Native.Nat.{ℕ, zero, suc, ◌+◌, ◌≤◌}
use Rattle.std.specs.Prelude.{◌≡◌, refl, ℤ, length}
use Rattle.std.proofs.Common.{◌∙◌, arith}
use Rattle.std.proofs.Math.Path.{ap₂}
use mathlib.Core.List.{List, [], ◌∷◌, ◌++◌, Memᴰ, append-nil}
use Rattle.std.proofs.Math.ListN.{length-append}
use Rattle.matching.specs.Definitions.Rows.{Sorts, range, size, spans_of, On, node_in, nodes_on, nodes_of, Fits}
use Rattle.matching.specs.Definitions.Lists.{All}
use Rattle.matching.specs.declared.Master.{Master}
use Rattle.matching.specs.Definitions.Nodes.{Node, Unique, of_sort}
use Rattle.matching.proofs.Laws.Lists.{all_at, all_in, all_append, all_append_left, all_append_right}
use Rattle.matching.proofs.Laws.Sorts.{same_sort, none_sort, sort_append}
use Rattle.matching.proofs.Laws.Sets.{on_length, on_all, on_in, on_unique}

-- Two lists of nodes whose numbers differ.
pub unique_append : (A B : List Node) → Unique A → Unique B → All (λ v. All (λ w. v.number ≡ w.number → ⊥) B) A → Unique (A ++ B)
unique_append [] B u w h = w
unique_append (v ∷ A) B u w h = (all_append (λ x. v.number ≡ x.number → ⊥) A B u.0 h.0, unique_append A B u.1 w h.1)

module _ (S : Sorts) (ns : List ℕ) (at : List (List ℤ)) (cs : List ℕ) (m : Master) where
  abbrev on : List Node
  on = nodes_on 0 S.on ns at cs m

  abbrev off : List Node
  off = nodes_on 1 S.off ns at cs m

  pub of_length : length (nodes_of S ns at cs m) ≡ size (range S.on m) + size (range S.off m)
  unfolding nodes_of
  of_length = length-append on off ∙ ap₂ ◌+◌ (on_length 0 S.on ns at cs m) (on_length 1 S.off ns at cs m)

  -- What holds of each row holds of each node, and the node of a row is one of them.
  pub of_all : (P : Node → Type 0) → ((t k : ℕ) → t ≤ 1 → On (spans_of S t) m k → P (node_in t ns at cs k)) → All P (nodes_of S ns at cs m)
  unfolding nodes_of
  of_all P h = all_append P on off (on_all 0 S.on ns at cs m P (λ k g. h 0 k (omega arith) g)) (on_all 1 S.off ns at cs m P (λ k g. h 1 k (omega arith) g))

  pub of_in : (t k : ℕ) → t ≤ 1 → On (spans_of S t) m k → Memᴰ (node_in t ns at cs k) (nodes_of S ns at cs m)
  unfolding nodes_of
  of_in zero k l h = all_at (λ v. Memᴰ v (on ++ off)) (all_append_left (λ v. Memᴰ v (on ++ off)) on off (all_in (on ++ off) (λ v i. i))) (on_in 0 S.on ns at cs m k h)
  of_in (suc zero) k l h = all_at (λ v. Memᴰ v (on ++ off)) (all_append_right (λ v. Memᴰ v (on ++ off)) on off (all_in (on ++ off) (λ v i. i))) (on_in 1 S.off ns at cs m k h)
  of_in (suc (suc t)) k l h = absurd (omega arith)

  pub of_unique : Fits ns at cs S → Unique (nodes_of S ns at cs m)
  unfolding nodes_of
  of_unique f = unique_append on off (on_unique 0 S.on ns at cs m (f.fit 0)) (on_unique 1 S.off ns at cs m (f.fit 1))
      (on_all 0 S.on ns at cs m _ (λ i h. on_all 1 S.off ns at cs m _ (λ k g. f.apart m i k h g)))

  -- The nodes of a sort are those of its rows.
  on_sort : (t : ℕ) (s : _) → All (λ v. v.sort ≡ t) (nodes_on t s ns at cs m)
  on_sort t s = on_all t s ns at cs m (λ v. v.sort ≡ t) (λ k h. refl)

  pub of_sort_on : of_sort 0 (nodes_of S ns at cs m) ≡ on
  unfolding nodes_of
  of_sort_on = sort_append 0 on off
      ∙ ap₂ ◌++◌ (same_sort 0 on (on_sort 0 S.on)) (none_sort 0 off (on_all 1 S.off ns at cs m (λ v. v.sort ≡ 0 → ⊥) (λ k h e. omega arith)))
      ∙ append-nil on

  pub of_sort_off : of_sort 1 (nodes_of S ns at cs m) ≡ off
  unfolding nodes_of
  of_sort_off = sort_append 1 on off
      ∙ ap₂ ◌++◌ (none_sort 1 on (on_all 0 S.on ns at cs m (λ v. v.sort ≡ 1 → ⊥) (λ k h e. omega arith))) (same_sort 1 off (on_sort 1 S.off))
