-- The lines by what an answer says.
use Rattle.std.specs.Prelude.{ℕ, ◌≡◌, ◌≢◌, ◌++◌}
use Rattle.std.proofs.Common.{eq-eqb, ne_eqb}
use Rattle.player.specs.Definitions.Text.{bytes, field, last_field}
use Rattle.player.specs.Definitions.Lines.{refusal_in, value_in, load_line, edit_line}

module _ (answer : ℕ) where
  -- A call that is done, with the value v,
  module _ (v : ℕ) (d : (refusal_in answer ≡ 0) × (v ≡ value_in answer)) where
    pub load_done : last_field (bytes "load ") v ≡ load_line answer
    unfolding load_line
    load_done = rw (eq-eqb (refusal_in answer) 0 d.0, d.1)

    pub edit_done : (n links : ℕ) → field (bytes "edit ") n ++ (field (bytes " kept ") v ++ last_field (bytes " links ") links) ≡ edit_line n answer links
    unfolding edit_line
    edit_done n links = rw (eq-eqb (refusal_in answer) 0 d.0, d.1)

  -- and one that is refused, by the refusal r.
  module _ (r v : ℕ) (d : (refusal_in answer ≢ 0) × (r ≡ refusal_in answer) × (v ≡ value_in answer)) where
    pub load-refused : field (bytes "load refused ") r ++ last_field (bytes " row ") v ≡ load_line answer
    unfolding load_line
    load-refused = rw (ne_eqb (refusal_in answer) 0 d.0, d.1, d.2)

    pub edit_refused : (n links : ℕ) → field (bytes "edit ") n ++ last_field (bytes " refused ") r ≡ edit_line n answer links
    unfolding edit_line
    edit_refused n links = rw (ne_eqb (refusal_in answer) 0 d.0, d.1)
