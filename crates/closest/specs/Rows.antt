-- The rows of both masters, the pairs that they make, and the links still to be taken.
use Rattle.std.specs.Prelude.{ℕ, ◌<◌, cond, List, ltb, get_or, ℤ}
use Rattle.matching.specs.declared.Spans.{Spans}
use Rattle.matching.specs.declared.Master.{Master}
use Rattle.matching.specs.declared.Master.TheVariants.{A as master_a, B as master_b}
use Rattle.closest.specs.declared.rows.Rows.{Rows as Lent}
use Rattle.matching.specs.Definitions.Nodes.{other}
use Rattle.matching.specs.Definitions.Pairs.{Pair}
use Rattle.matching.specs.Definitions.Links.{Link}
use Rattle.matching.specs.Definitions.Join.{join}
use Rattle.matching.specs.Definitions.Sizes.{half, set_rows}
use Rattle.matching.specs.Definitions.Rows.{On, gap, nodes_on, Fit}

-- Numbers and positions, and which rows are whose.
pub record Rows : Type 0 where
  pub ns : List ℕ
  pub at : List (List ℤ)
  pub spans : Spans

-- What the rows that are lent denote.
abbrev pub lent : Lent → Rows
lent r = record { ns = r.ns.now; at = r.at.now; spans = r.spans }

module _ (R : Rows) where
  -- Row k is one of them.
  pub record Held (k : ℕ) : Type 0 where
    pub master : Master
    pub on : On R.spans master k
    pub low : k < set_rows

  -- Rows t and k are of different masters.
  pub data Faces (t k : ℕ) : Type 0 where
    faces : (m : Master) → On R.spans m t → On R.spans (other m) k → Faces t k

  -- The squared distance of two rows.
  abbrev pub far : ℕ → ℕ → ℕ
  far i k = gap R.at i R.at k

  -- The pair of A's row i and B's row j.
  abbrev pub row_pair : ℕ → ℕ → Pair
  row_pair i j = record { distance = far i j; a = get_or R.ns i 0; b = get_or R.ns j 0 }

  -- The pair of two rows that face each other, whichever is A's.
  unfoldable pub between : ℕ → ℕ → Pair
  between t k = cond (ltb t half) (row_pair t k) (row_pair k t)

  -- The links still to be taken: the join of what is left. Rows of one sort all pair, whatever the sort.
  unfoldable pub rest : List ℕ → List Link
  unfolding nodes_on join
  rest left = join (nodes_on 0 R.spans R.ns R.at left master_a) (nodes_on 0 R.spans R.ns R.at left master_b)

  -- What every step may rely on.
  abbrev pub Sound : List ℕ → Type 0
  Sound left = Fit R.ns R.at left R.spans
