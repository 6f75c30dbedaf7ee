-- The blocks of both masters are laid out, and the run takes the pairs.
use mathlib.Core.Path.{refl}
use Rattle.matching.specs.declared.Master.TheVariants.{A as master_a, B as master_b}
use Rattle.closest.proofs.Laws.Blocks.{may_lay, kept_start, fenced_start}
use Rattle.closest.proofs.picks.pick.Goals as goal

pub lay-requires : goal.lay-requires
lay-requires c = let r = c.args.rows.now in may_lay _ _ (r.fit _ c.requires.0) master_a _ _ _ (record { numbers = r.numbers; positions = r.positions; listed = refl; points = refl; spots = refl }) refl refl

pub lay-requires-2 : goal.lay-requires-2
lay-requires-2 c = let a = c.lay.ensures in may_lay _ _ (c.args.rows.now.fit _ c.requires.0) master_b _ _ _ a.sized a.ends a.boxes

pub run-requires-clause-fenced : goal.run-requires-clause-fenced
run-requires-clause-fenced c = fenced_start _ _ (c.args.rows.now.fit _ c.requires.0) _ _ _ _ _ _ _ _ _ c.lay.ensures c.lay-2.ensures

pub run-requires-clause-kept : goal.run-requires-clause-kept
run-requires-clause-kept c = (kept_start _ _ (c.args.rows.now.fit _ c.requires.0) _ _ _ _ _ _ _ _ _ c.lay.ensures c.lay-2.ensures, c.requires.1)
