-- A's row loses the lesser, then B's row, and the link is written.
use mathlib.Core.Path.{refl}
use Rattle.closest.proofs.Laws.Step.{take_first, take_second, taken}
use Rattle.closest.proofs.picks.pair.Goals as goal

pub spend-requires : goal.spend-requires
spend-requires c = let p = c.requires in let f = take_first _ _ (c.args.rows.now.fit _ p.takes.1) _ p.takes.0 _ c.min-m.ensures in record { held = (f.0.1, p.takes.1); kept = p.kept; m_bound = f.1 }

pub spend-requires-2 : goal.spend-requires-2
spend-requires-2 c = let p = c.requires in let f = take_second _ _ (c.args.rows.now.fit _ p.takes.1) _ p.takes.0 _ c.min-m.ensures _ _ _ _ c.spend.ensures.spent in record { held = (f.0.1, f.0.0.capacities); kept = f.1.0; m_bound = f.1.1 }

pub returns-clause-taken : goal.returns-clause-taken
returns-clause-taken c = let p = c.requires in taken _ _ (c.args.rows.now.fit _ p.takes.1) _ p.takes.0 _ c.min-m.ensures _ _ _ _ c.spend.ensures.spent _ _ _ _ _ _ c.spend-2.ensures.spent refl
