-- The place of a number among the nodes, and what an edit does there.
use Rattle.std.specs.Prelude.{ℕ, suc, ◌≡◌, refl, Bool, true, false, ◌||◌, List, [], ◌∷◌, ◌++◌, eqb, length}
use Rattle.std.proofs.Common.{sym, ap, arith, eqb-true}
use Rattle.matching.specs.Definitions.Nodes.{Node, Absent, Unique, has, place}
use Rattle.matching.specs.Definitions.Edits.{depart, amend}
use Rattle.matching.proofs.Laws.Lists.{all_append_right}

pub record Split (n : ℕ) (A : List Node) : Type 0 where
  pub A₁ : List Node
  pub v : Node
  pub A₂ : List Node
  pub is_list : A ≡ A₁ ++ v ∷ A₂
  pub is_number : v.number ≡ n
  pub is_place : place n A ≡ length A₁
  pub departed : depart n A ≡ A₁ ++ A₂
  pub amended : (f : Node → Node) → amend f n A ≡ A₁ ++ f v ∷ A₂

pub split : (n : ℕ) (A : List Node) → has n A ≡ true → Split n A
unfolding has place depart amend
split n [] h = absurd (let z : ◌≡◌ {A = ℕ} 0 1 = cc in omega arith)
split n (v ∷ A) h = go (eqb v.number n) refl h (split n A)
  where
    go : (t : Bool) → eqb v.number n ≡ t → (t || has n A) ≡ true → (has n A ≡ true → Split n A) → Split n (v ∷ A)
    go true e h r = record {
      A₁ = [];
      v = v;
      A₂ = A;
      is_list = refl;
      is_number = eqb-true v.number n e;
      is_place = rw e;
      departed = rw e;
      amended = λ f. rw e;
    }
    go false e h r = let t : Split n A = r h in
        record {
          A₁ = v ∷ t.A₁;
          v = t.v;
          A₂ = t.A₂;
          is_list = ap (λ (l : List Node). v ∷ l) t.is_list;
          is_number = t.is_number;
          is_place = rw e (ap suc t.is_place);
          departed = rw e (ap (λ (l : List Node). v ∷ l) t.departed);
          amended = λ f. rw e (ap (λ (l : List Node). v ∷ l) (t.amended f));
        }

pub absent_of_unique : (A₁ : List Node) (v : Node) (A₂ : List Node) → Unique (A₁ ++ v ∷ A₂) → Absent v.number (A₁ ++ A₂)
absent_of_unique [] v A₂ u = u.0
absent_of_unique (w ∷ A₁) v A₂ u = ((λ e. (all_append_right (λ x. w.number ≡ x.number → ⊥) A₁ (v ∷ A₂) u.0).0 (sym e)), absent_of_unique A₁ v A₂ u.1)
