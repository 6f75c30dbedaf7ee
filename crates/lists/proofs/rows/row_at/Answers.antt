-- The fields that its callees read.
use Rattle.tables.specs.Definitions.Lists.{link_from}
use Rattle.lists.proofs.rows.row_at.Goals as goal

pub returns : goal.returns
unfolding link_from
returns c =
    λ t. record {
      a = c.number_at.ensures t;
      b = c.number_at-2.ensures t;
      distance = c.four_at.ensures t;
      amount = c.two_at.ensures.0 t;
    }
