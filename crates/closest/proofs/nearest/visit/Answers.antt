-- A block that lists nothing, one that is too far away, one that is looked through.
use Rattle.closest.proofs.Laws.Nearest.{sought_none, sought_skip}
use native.Mathlib.Omega.{arith}
use Rattle.closest.proofs.nearest.visit.Goals as goal

pub returns-then-end-first : goal.returns-then-end-first
returns-then-end-first c = sought_none _ _ _ _ _ _ c.if-end-first.true

pub returns-then-pack-near : goal.returns-then-pack-near
returns-then-pack-near c = sought_skip _ _ _ _ _ _ _ _ _ _ c.requires.1.boxed c.clearance.ensures (omega (arith, c.pack.ensures.0, c.if-pack-near.true))

pub search-requires : goal.search-requires
search-requires c = (c.requires.0, c.requires.1.listing)
