-- The links picked of both sorts, put in order, are the join of the capacities.
use Rattle.closest.proofs.Laws.Spans.{fit_again}
use Rattle.closest.proofs.Laws.Sorts.{room_first, room_second, joined}
use Rattle.closest.proofs.join.Goals as goal

pub invariant_of-on : goal.invariant_of-on
invariant_of-on c = let s = c.args.set in record { numbers = s.numbers; positions = s.positions; fit = fit_again (s.fits.fit 0) }

pub invariant_of-off : goal.invariant_of-off
invariant_of-off c = let s = c.args.set in record { numbers = s.numbers; positions = s.positions; fit = fit_again (s.fits.fit 1) }

pub pick_sort-n-requires : goal.pick_sort-n-requires
pick_sort-n-requires c = let f = c.args.set.fits in (c.args.set.capacities, room_first _ _ _ _ f _ c.requires)

pub pick_sort-m-requires : goal.pick_sort-m-requires
pick_sort-m-requires c = let f = c.args.set.fits in (c.args.set.capacities, room_second _ _ _ _ f _ c.requires _ _ c.pick_sort-n.ensures)

pub returns : goal.returns
returns c = let o = c.arrange.ensures in joined _ _ _ _ c.args.set.fits _ c.requires _ _ c.pick_sort-n.ensures _ _ _ c.pick_sort-m.ensures o.permutation o.sorted
