-- By the laws of a row that loses something.
use Prim.Native.Nat.{◌-◌, ◌/◌}
use mathlib.Core.Path.{refl}
use native.Mathlib.Omega.{arith}
use lib.ListN.{get_or}
use Rattle.matching.specs.Definitions.Sizes.{block_rows}
use Rattle.closest.proofs.Laws.Blocks.{spend_may, spend_kept, least_again}
use Rattle.closest.proofs.blocks.Blocks.spend.Goals as goal

pub refresh-e-requires-clause-may : goal.refresh-e-requires-clause-may
refresh-e-requires-clause-may c = let p = c.requires in spend_may _ _ (c.args.rows.now.fit _ p.held.1) _ _ p.kept _ p.held.0 p.m_bound.1 (get_or c.args.left.now c.args.row 0 - c.args.m) (omega arith)

pub returns-clause-spent : goal.returns-clause-spent
returns-clause-spent c = let p = c.requires in record {
  lefts = refl;
  kept = spend_kept _ _ (c.args.rows.now.fit _ p.held.1) _ _ p.kept _ p.held.0 p.m_bound.1 (get_or c.args.left.now c.args.row 0 - c.args.m) (omega arith) _ _ _ c.refresh-e.ensures;
  leasts = least_again c.args.self.now.ends (c.args.row / block_rows) _ (omega (arith, p.held.0.low, p.kept.ends));
}
