use Rattle.std.proofs.Common.{◌≡◌, ◌<◌, ℕ, List, [], Bool, true, false, not, eqb, length, get_or, refl, sym, ◌∙◌, ap, zero-add, arith}
use lib.Pointwise.{pointwise}
use Rattle.matching.specs.Definitions.Links.{same_link}
use Rattle.matching.specs.Definitions.Rows.{link_in}
use Rattle.lists.proofs.Laws.Compare.{rows_same, common_more, common_here, common_end}
use Rattle.lists.proofs.compare.common_rows.Goals as goal

-- What a comparison of rows tells of their links.
told : (J L : List (List ℕ)) (k : ℕ) (t : Bool) → k < length J → k < length L → ((i : ℕ) → i < length J → length (get_or J i []) ≡ 4) → ((i : ℕ) → i < length L → length (get_or L i []) ≡ 4)
    → not (pointwise eqb (get_or J k []) (get_or L k [])) ≡ t → same_link (link_in J k) (link_in L k) ≡ not t
told J L k t h g p q e = sym (rows_same (get_or J k []) (get_or L k []) (p k h) (q k g)) ∙ sym (not_not _) ∙ ap not e
  where
    not_not : (b : Bool) → not (not b) ≡ b
    not_not true = refl
    not_not false = refl

pub loop-k-init : goal.loop-k-init
loop-k-init c = sym (zero-add _)

pub returns-then-ne : goal.returns-then-ne
returns-then-ne c = (common_here c.args.old.now c.args.new.now c.loop-k.k c.loop-k.invariant (omega arith) (omega arith) (told c.args.old.now c.args.new.now c.loop-k.k _ (omega arith) (omega arith) c.told-old c.told-new (sym c.ne.ensures ∙ c.if-ne.true)), omega arith)

pub loop-k-preserved : goal.loop-k-preserved
loop-k-preserved c = common_more c.args.old.now c.args.new.now c.loop-k.k c.loop-k.invariant (omega arith) (omega arith) (told c.args.old.now c.args.new.now c.loop-k.k _ (omega arith) (omega arith) c.told-old c.told-new (sym c.ne.ensures ∙ c.if-ne.false))

pub returns : goal.returns
returns c = (omega (arith, common_end c.args.old.now c.args.new.now c.loop-k.k c.loop-k.invariant (omega arith)), omega arith)
