-- Pair: whatever the list was, it holds the join afterwards (demand 2).
use Rattle.std.specs.Prelude.{ℕ, ◌≡◌, List, [], length, Ok}
use Rattle.std.proofs.Common.{◌∙◌}
use Rattle.std.proofs.Math.Path.{ap}
use Rattle.tables.specs.Definitions.Sizes.{list_size}
use Rattle.tables.specs.Definitions.Tables.{nodes_in, Accepted}
use Rattle.tables.specs.Definitions.Lists.{finished, links_in}
use Rattle.tables.proofs.Laws.Accepted.{nodes_good}
use Rattle.tables.specs.Laws.Lists.{list_links}
use Rattle.contract.specs.Definitions.Buffers.{lent, paired, links_of}
use Rattle.contract.specs.Definitions.Shapes.{Outcome, outcome}
use Rattle.contract.specs.Definitions.Requests.{pair_shape}
use Rattle.contract.specs.Definitions.Calls.{pair_call}
use Rattle.contract.proofs.Laws.Refusals.{call-done}
use Rattle.contract.proofs.Laws.Lists.{links_room, join_good}
use Rattle.contract.proofs.Laws.Places.{pair_passes}

module _ (a b l : List ℕ) (ha : Accepted a) (hb : Accepted b) (size : length l ≡ list_size) where
  -- Of accepted tables Pair writes the finished list, and gives the number of links.
  pub pair_done : pair_call a b l ≡ outcome (Ok (length (links_of (lent a b l)))) (paired a b) []
  pair_done = call-done pair_shape (lent a b l) (pair_passes a b l ha hb size)

  -- The links read back from it are the join's.
  pub pair_links : links_in (pair_call a b l).held.list ≡ links_of (lent a b l)
  unfolding finished
  pair_links =
      ap (λ (o : Outcome). links_in o.held.list) pair_done
      ∙ list_links (links_of (lent a b l)) (join_good (nodes_in a) (nodes_in b) (nodes_good a ha) (nodes_good b hb)) (links_room a b)
