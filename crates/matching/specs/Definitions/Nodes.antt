-- Masters and their nodes (document 01, 'Rows and buffers', without the bytes).
use Rattle.std.specs.Prelude.{ℕ, suc, ◌≡◌, Bool, false, cond, ◌||◌, List, [], ◌∷◌, map, ℤ, eqb}
use Rattle.matching.specs.Definitions.Lists.{All}
use Rattle.matching.specs.declared.Master.{Master}
use Rattle.matching.specs.declared.Master.TheVariants.{A as master_a, B as master_b}

-- A thing for each master: A is the light, B the bold.
abbrev pub each : {X : Type 0} → X → X → Master → X
each x y master_a = x
each x y master_b = y

abbrev pub other : Master → Master
other master_a = master_b
other master_b = master_a

-- A node is of a sort: 0 is on-curve, 1 off-curve.
pub record Node : Type 0 where
  pub number : ℕ
  pub x : ℤ
  pub y : ℤ
  pub capacity : ℕ
  pub sort : ℕ

abbrev pub numbers : List Node → List ℕ
numbers = map (λ (v : Node). v.number)

-- No node of the list has the number n.
abbrev pub Absent : ℕ → List Node → Type 0
Absent n A = All (λ w. n ≡ w.number → ⊥) A

-- No two nodes of a master have the same number.
abbrev pub Unique : List Node → Type 0
Unique [] = Unit {0}
Unique (v ∷ A) = Absent v.number A × Unique A

-- Whether a node of the list has the number n, and the place of the first that has it.
unfoldable pub has : ℕ → List Node → Bool
has n [] = false
has n (v ∷ A) = eqb v.number n || has n A

unfoldable pub place : ℕ → List Node → ℕ
place n [] = 0
place n (v ∷ A) = cond (eqb v.number n) 0 (suc (place n A))

-- The capacity of the node with number n, 0 where there is none.
unfoldable pub capacity_of : List Node → ℕ → ℕ
capacity_of [] n = 0
capacity_of (v ∷ A) n = cond (eqb v.number n) v.capacity (capacity_of A n)

-- The nodes of the sort s, in their order.
unfoldable pub of_sort : ℕ → List Node → List Node
of_sort s [] = []
of_sort s (v ∷ A) = cond (eqb v.sort s) (v ∷ of_sort s A) (of_sort s A)
