-- The two nodes stand in the set, so that there is room for what is taken of each.
use native.Mathlib.Omega.{arith}
use Rattle.matching.specs.declared.Master.TheVariants.{A as master_a, B as master_b}
use Rattle.stability.proofs.Laws.Ranges.{in_set}
use Rattle.stability.proofs.Laws.Links.{within_more}
use Rattle.stability.proofs.links.take.Goals as goal

pub spend-requires : goal.spend-requires
spend-requires c =
    let x = c.stands_alike.ensures c.if-not-stands_alike.false in
    let a = in_set c.args.set.fits x.sort master_a _ (x.rows.on master_a) in
    (omega (arith, c.args.set.capacities), omega arith, omega arith, c.requires.within)

pub spend-requires-2 : goal.spend-requires-2
spend-requires-2 c =
    let x = c.stands_alike.ensures c.if-not-stands_alike.false in
    let a = in_set c.args.set.fits x.sort master_a _ (x.rows.on master_a) in
    let b = in_set c.args.set.fits x.sort master_b _ (x.rows.on master_b) in (
      omega (arith, c.args.set.capacities),
      omega arith,
      omega arith,
      within_more _ _ _ _ _ _ _ _ (omega arith) c.requires.within (c.spend.ensures c.if-not-spend.false),
    )
