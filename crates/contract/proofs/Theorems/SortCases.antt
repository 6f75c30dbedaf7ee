-- Document 02's cases of sorts come out as it says.
use Rattle.std.specs.Prelude.{ℕ, ◌≡◌, refl, true, List, [], ◌∷◌, map, pos, Ok, None, Some}
use Rattle.std.proofs.Common.{ap₂, arith}
use Rattle.matching.specs.Definitions.Lists.{All}
use Rattle.matching.specs.Definitions.Nodes.{has}
use Rattle.matching.specs.Definitions.Edits.{amend}
use Rattle.matching.specs.Definitions.Links.{Link, common}
use Rattle.matching.specs.Definitions.Join.{join, spare}
use Rattle.matching.specs.Cases.{e5, e5s, cases-join}
use Rattle.matching.proofs.Theorems.Join.{join_none_b}
use Rattle.tables.specs.Definitions.Sizes.{node_rows}
use Rattle.tables.specs.Definitions.Fields.{nat_bytes}
use Rattle.tables.specs.Definitions.Tables.{node_bytes, table_bytes, faulty, first_fault}
use Rattle.tables.specs.Definitions.Edits.{number_of, edit_fields, edit_nodes}
use Rattle.tables.proofs.Laws.Faultless.{table_accepted}
use Rattle.contract.specs.Definitions.Answers.{refused}
use Rattle.contract.specs.declared.Refusal.TheVariants.{Field}
use Rattle.contract.specs.Definitions.Buffers.{stated_lengths}
use Rattle.contract.specs.Definitions.Shapes.{OfBytes, turn}
use Rattle.contract.specs.Definitions.Requests.{redrawn, edit, shape}
use Rattle.contract.specs.Definitions.Requests as requests
use Rattle.contract.specs.Definitions.Refusals.{lengths_right}
use Rattle.contract.specs.Definitions.Conditions.{First}
use Rattle.contract.specs.Definitions.Drawing.{played}
use Rattle.contract.specs.Definitions.Cases.{Right, case, single}
use Rattle.contract.specs.Definitions.SortCases.{nearer, apart, second_row, faulty_a, faulty_b, wrong_edits, turning, refused_edit, sort_cases}
use Rattle.contract.proofs.Laws.Places.{own_answer}
use Rattle.contract.proofs.Laws.Cases.{are_nodes, are_good}
use Rattle.contract.proofs.Theorems.Cases.{paper_of, Known, known, on_pair, on_turn, on_nodes, k5, fault_a, fault_b, first_row}

k_nearer : Known nearer
unfolding are_nodes join
k_nearer = known nearer refl refl (omega arith) (omega arith) refl

k_apart : Known apart
unfolding are_nodes join
k_apart = known apart refl refl (omega arith) (omega arith) refl

k_most : Known (single (pos 0) 64 1)
unfolding are_nodes
k_most = known (single (pos 0) 64 1) refl refl (omega arith) (omega arith) (join_none_b (single (pos 0) 64 1).a)

most_spare : Right (case (single (pos 0) 64 1) [] (requests.spare 0 1) 0 64 [] [])
unfolding own_answer lengths_right has spare
most_spare = on_nodes (single (pos 0) 64 1) k_most (requests.spare 0 1) 64 [] tt tt refl refl refl

-- Faulty rows.
much : faulty (table_bytes (single (pos 0) 65 1).a) 0 ≡ true
unfolding faulty table_bytes nat_bytes
much = refl

second : First (faulty (table_bytes second_row)) node_rows 1
unfolding faulty table_bytes nat_bytes
second = record { low = omega arith; here = refl; ahead = λ i l. (let e : i ≡ 0 = omega arith in rw e) }

-- The edit of a sort: E5 is redrawn, and its join is known.
turned : played (shape (edit turning)).acts (turning ∷ []) (paper_of e5) ≡ turn (Ok 0) (turning ∷ []) (paper_of e5s)
unfolding redrawn edit_nodes node_bytes nat_bytes amend common
turned = ap₂ (λ (K J : List Link). turn (Ok (common K J)) (turning ∷ []) (paper_of e5s)) cases-join.1.1.1.0 cases-join.1.1.1.1.1.0

e5_turned : Right (record {
  drawing = e5;
  list = e5.links;
  request = edit turning;
  number = 0;
  value = 0;
  redrawn = e5s;
  after = e5s.links;
  others = turning ∷ [];
})
unfolding own_answer lengths_right has number_of edit_fields node_bytes nat_bytes
e5_turned = on_turn e5 k5 (edit turning) 0 0 e5s (turning ∷ []) cases-join.1.1.1.1.1.0 (omega arith, tt) tt refl refl turned

-- A field that breaks the rules of its kind.
wrong : (e : List ℕ) → OfBytes (shape (edit e)) → lengths_right stated_lengths (shape (edit e)) ≡ true → own_answer (shape (edit e)) (paper_of e5) ≡ Some (refused Field 0) → Right (refused_edit e)
wrong e o r a = on_turn e5 k5 (edit e) 8 0 e5 (e ∷ []) k5.is_join o tt r refl (rw a)

wrong_edits_lem : All Right (map refused_edit wrong_edits)
unfolding own_answer lengths_right has number_of edit_fields node_bytes nat_bytes
wrong_edits_lem = (wrong _ (omega arith, tt) refl refl, (wrong _ (omega arith, tt) refl refl, (wrong _ (omega arith, tt) refl refl, (wrong _ (omega arith, tt) refl refl, tt))))

pub sort_cases_right : All Right sort_cases
unfolding lengths_right
sort_cases_right =
    also (on_pair nearer k_nearer) (also (on_pair apart k_apart) (also (on_pair (single (pos 0) 64 1) k_most) (also most_spare (
    also (fault_a (single (pos 0) 65 1) (omega arith) (omega arith) 0 (first_row _ much)) (
    also (fault_a faulty_a (omega arith) (omega arith) 1 second) (also (fault_b faulty_b (omega arith) (omega arith) 1 none_faulty second) (
    also e5_turned wrong_edits_lem)))))))
  where
    also : {X Y : Type 0} → X → Y → X × Y
    also x y = (x, y)

    none_faulty : first_fault (table_bytes []) ≡ None
    none_faulty = (table_accepted [] (are_good [] (unfold are_nodes in refl) (omega arith))).faultless
