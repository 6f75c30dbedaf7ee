-- The five calls are lawful, and may stand in a history.
use Rattle.std.specs.Prelude.{ℕ, ◌*◌, ◌≤◌, ◌≡◌, refl, List, [], ◌∷◌, length, take, drop, Ok, Option, None, Some}
use Rattle.std.proofs.Common.{◌∙◌, ap, ap₂, subst, arith}
use Rattle.matching.specs.declared.Master.TheVariants.{A as master_a, B as master_b}
use Rattle.matching.specs.Definitions.Links.{Link, common}
use Rattle.tables.specs.Definitions.Sizes.{link_size, link_rows}
use Rattle.tables.specs.Definitions.Lists.{list_bytes, finished, first_difference}
use Rattle.tables.specs.Definitions.Edits.{master_of}
use Rattle.tables.specs.Definitions.Bands.{band_bytes}
use Rattle.tables.specs.Laws.Fields.{bytes_drop}
use Rattle.tables.proofs.Laws.ListCode.{common_room}
use Rattle.tables.specs.Laws.Compare.{same_difference}
use Rattle.tables.proofs.Laws.Edits.{Passes}
use Rattle.contract.specs.Definitions.Answers.{code_of}
use Rattle.contract.specs.Definitions.Buffers.{Buffers, paired, lengths_of, Drawing, links, drawn, links_of, buffers, master_named, nodes_named}
use Rattle.contract.specs.Definitions.Shapes.{outcome, turn}
use Rattle.contract.specs.Definitions.Requests.{pair_shape, stepped, step_shape, edited, redrawn, edit_shape, left, spare_shape, bands_shape, Request, pair, step, edit, spare, bands, shape}
use Rattle.contract.specs.Definitions.Drawing.{shown}
use Rattle.contract.proofs.Laws.Tests.{edit_right, node_right}
use Rattle.contract.proofs.Laws.Refusals.{Passed, edit_passes, accepted}
use Rattle.contract.proofs.Laws.Lists.{links_room}
use Rattle.contract.proofs.Laws.Values.{spare_low, counts_bytes, bytes_take, put_bytes}
use Rattle.contract.proofs.Laws.Programs.{finished_bytes, edited_accepted}
use Rattle.contract.proofs.Laws.Drawing.{drawn_back, drawn_list, drawn_paired, redrawn_good, edited_drawn, list_ahead}
use Rattle.contract.proofs.Laws.Lawful.{HeldBytes, Written, Lawful, Ready, Faithful}

-- Pair.
pair_lawful : Lawful pair_shape
pair_lawful = record {
  tests = tt;
  value = λ h ba bb u. omega (arith, links_room h.a h.b);
  bytes = λ h b o u. record { held = record { a = b.a; b = b.b; list = finished_bytes h.a h.b }; others = tt };
}

pair_faithful : Faithful pair_shape
pair_faithful = record { same = same; good = λ d r. r.good; ahead = λ d r. tt }
  where
    same : (d : Drawing) → Ready pair_shape d → pair_shape.done (buffers d) ≡ shown (turn (Ok (length (links d))) [] d)
    same d r =
        ap (λ (c : Drawing). outcome (Ok (length (links c))) (paired (buffers d).a (buffers d).b) []) (drawn_back d r.good)
        ∙ ap (λ (h : Buffers). outcome (Ok (length (links d))) h []) (drawn_paired d r.good)

-- Step.
step_value : (h : Buffers) (o : Option ℕ) → (stepped h o).code ≤ link_rows
step_value h None = omega arith
step_value h (Some k) = omega arith

step_bytes : (h : Buffers) → HeldBytes h → (o : Option ℕ) → Written (stepped h o)
step_bytes h b None = record { held = b; others = tt }
step_bytes h b (Some k) =
    let f = finished h.a h.b in
    record {
      held = record {
        a = b.a;
        b = b.b;
        list = put_bytes h.list (link_size * k) (take link_size (drop (link_size * k) f)) b.list (bytes_take link_size (drop (link_size * k) f) (bytes_drop (link_size * k) f (finished_bytes h.a h.b)));
      };
      others = tt;
    }

step_lawful : Lawful step_shape
step_lawful = record {
  tests = tt;
  value = λ h ba bb u. step_value h (first_difference h.list (finished h.a h.b));
  bytes = λ h b o u. step_bytes h b (first_difference h.list (finished h.a h.b));
}

step_faithful : Faithful step_shape
step_faithful = record { same = same; good = λ d r. r.good; ahead = λ d r. tt }
  where
    same : (d : Drawing) → Ready step_shape d → step_shape.done (buffers d) ≡ shown (turn (Ok 0) [] d)
    same d r = ap (stepped (buffers d)) whole
      where
        whole : first_difference (buffers d).list (finished (buffers d).a (buffers d).b) ≡ None
        whole = unfold buffers in rw (drawn_list d r.good) (same_difference (list_bytes (links d)))

-- Edit.
edit_value : (h : Buffers) (J : List Link) → code_of (Ok (common (links_of h) J)) ≤ link_rows
edit_value h J = omega (arith, links_room h.a h.b, (common_room (links_of h) J).0)

edit_bytes : (e : List ℕ) (h : Buffers) → HeldBytes h → Passes e (nodes_named (drawn h) (master_of e)) → Passed (lengths_of h) (edit_shape e) h → HeldBytes (edited e h)
unfolding edited
edit_bytes e h b p u =
    let t = edited_accepted e h.a h.b (accepted (edit_shape e) h u refl master_a b.a) (accepted (edit_shape e) h u refl master_b b.b) (master_named (master_of e)) p in
    record { a = t.0.bytes; b = t.1.bytes; list = finished_bytes _ _ }

edit_lawful : (e : List ℕ) → Lawful (edit_shape e)
edit_lawful e = record {
  tests = edit_right e;
  value = λ h ba bb u. edit_value h (links_of (edited e h));
  bytes = λ h b o u. record { held = edit_bytes e h b (edit_passes (lengths_of h) e h o.0 u) u; others = o };
}

module _ (e : List ℕ) (d : Drawing) (r : Ready (edit_shape e) d) where
  passes : Passes e (nodes_named d (master_of e))
  passes = subst (λ (c : Drawing). Passes e (nodes_named c (master_of e))) (drawn_back d r.good) (edit_passes r.lengths e (buffers d) r.others.0 r.passed)

  edit_same : (edit_shape e).done (buffers d) ≡ shown (turn (Ok (common (links d) (links (redrawn e d)))) (e ∷ []) (redrawn e d))
  edit_same =
      ap (λ (h : Buffers). outcome (Ok (common (links_of (buffers d)) (links_of h))) h (e ∷ [])) (edited_drawn d r.good e passes)
      ∙ ap₂ (λ (b c : Drawing). outcome (Ok (common (links b) (links c))) (buffers (redrawn e d)) (e ∷ [])) (drawn_back d r.good) (drawn_back (redrawn e d) (redrawn_good d r.good e passes))

edit_faithful : (e : List ℕ) → Faithful (edit_shape e)
edit_faithful e = record {
  same = edit_same e;
  good = λ d r. redrawn_good d r.good e (passes e d r);
  ahead = λ d r. unfold buffers in list_ahead d r.good e (passes e d r);
}

-- Spare.
spare_lawful : (m n : ℕ) → Lawful (spare_shape m n)
spare_lawful m n = record {
  tests = node_right m n;
  value = λ h ba bb u. omega (arith, spare_low h.a h.b (accepted (spare_shape m n) h u refl master_a ba) (accepted (spare_shape m n) h u refl master_b bb) (master_named m) n);
  bytes = λ h b o u. record { held = b; others = tt };
}

spare_faithful : (m n : ℕ) → Faithful (spare_shape m n)
spare_faithful m n = record { same = λ d r. ap (λ (c : Drawing). outcome (Ok (left m n c)) (buffers d) []) (drawn_back d r.good); good = λ d r. r.good; ahead = λ d r. tt }

-- Bands.
bands_lawful : (c : List ℕ) → Lawful (bands_shape c)
bands_lawful c = record {
  tests = tt;
  value = λ h ba bb u. omega arith;
  bytes = λ h b o u. record { held = b; others = (counts_bytes (links_of h), tt) };
}

bands_faithful : (c : List ℕ) → Faithful (bands_shape c)
bands_faithful c = record { same = λ d r. ap (λ (c : Drawing). outcome (Ok 0) (buffers d) (band_bytes (links c) ∷ [])) (drawn_back d r.good); good = λ d r. r.good; ahead = λ d r. tt }

pub lawful : (q : Request) → Lawful (shape q)
lawful pair = pair_lawful
lawful step = step_lawful
lawful (edit e) = edit_lawful e
lawful (spare m n) = spare_lawful m n
lawful (bands c) = bands_lawful c

pub faithful : (q : Request) → Faithful (shape q)
faithful pair = pair_faithful
faithful step = step_faithful
faithful (edit e) = edit_faithful e
faithful (spare m n) = spare_faithful m n
faithful (bands c) = bands_faithful c
