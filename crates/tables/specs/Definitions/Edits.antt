-- An edit's bytes: its fields, its rules, and its effect on the nodes and on the table of its master.
use Rattle.std.specs.Prelude.{ℕ, suc, ◌+◌, ◌*◌, Bool, cond, ◌&&◌, List, ◌++◌, eqb, length, get_or, take, drop, replicate}
use Rattle.matching.specs.Definitions.Nodes.{Node, place}
use Rattle.matching.specs.Definitions.Edits.{arrive, depart, amend, moved, resized}
use Rattle.tables.specs.Definitions.Sizes.{number_size, position_size, capacity_size, node_x, node_capacity, node_size, edit_number, edit_x, edit_y, edit_capacity}
use Rattle.tables.specs.Definitions.Fields.{nat_at, position_at}
use Rattle.tables.specs.Definitions.Rows.{put}
use Rattle.tables.specs.Definitions.Tables.{node_from, nodes_in, position_good, capacity_good}

-- Its fields.
abbrev pub kind_of : List ℕ → ℕ
kind_of e = get_or e 0 0

abbrev pub master_of : List ℕ → ℕ
master_of e = get_or e 1 0

unfoldable pub number_of : List ℕ → ℕ
unfolding nat_at
number_of e = nat_at number_size e edit_number

-- What follows kind and master, as a node.
unfoldable pub edit_node : List ℕ → Node
unfolding node_from
edit_node e = node_from e edit_number

-- A thing for each kind: 1 is an arrival, 2 a departure, 3 a move, 4 a new capacity and sort.
abbrev pub of_kind : {X : Type 0} → ℕ → X → X → X → X → X
of_kind k arrival departure move capacity = cond (eqb k 1) arrival (cond (eqb k 2) departure (cond (eqb k 3) move capacity))

-- The fields that a kind uses are in range, and the others zero.
unfoldable pub positions_zero : List ℕ → Bool
unfolding nat_at
positions_zero e = eqb (nat_at position_size e edit_x) 0 && eqb (nat_at position_size e edit_y) 0

unfoldable pub positions_good : List ℕ → Bool
unfolding position_good position_at
positions_good e = position_good (position_at e edit_x) && position_good (position_at e edit_y)

-- The capacity field whole, with the sort.
unfoldable pub capacity_field : List ℕ → ℕ
unfolding nat_at
capacity_field e = nat_at capacity_size e edit_capacity

unfoldable pub edit_fields : List ℕ → Bool
unfolding positions_zero positions_good capacity_field capacity_good
edit_fields e =
    of_kind (kind_of e)
    (positions_good e && capacity_good (capacity_field e))
    (positions_zero e && eqb (capacity_field e) 0)
    (positions_good e && eqb (capacity_field e) 0)
    (positions_zero e && capacity_good (capacity_field e))

-- The edit on the nodes of its master.
unfoldable pub edit_nodes : List ℕ → List Node → List Node
unfolding edit_node number_of depart amend
edit_nodes e A =
    of_kind (kind_of e)
    (arrive (edit_node e) A)
    (depart (number_of e) A)
    (amend (moved (edit_node e).x (edit_node e).y) (number_of e) A)
    (amend (resized (edit_node e).capacity (edit_node e).sort) (number_of e) A)

-- The table without row k: the later rows close up, and the last becomes zero.
unfoldable pub closed : List ℕ → ℕ → List ℕ
closed t k = take (node_size * k) t ++ (drop (node_size * suc k) t ++ replicate node_size 0)

-- The edit on its table: an arrival goes after the last node; a move or a new capacity touches only its row.
unfoldable pub edit_table : List ℕ → List ℕ → List ℕ
unfolding put closed nodes_in place number_of
edit_table e t =
    of_kind (kind_of e)
    (put t (node_size * length (nodes_in t)) (drop edit_number e))
    (closed t (place (number_of e) (nodes_in t)))
    (put t (node_size * place (number_of e) (nodes_in t) + node_x) (take (position_size + position_size) (drop edit_x e)))
    (put t (node_size * place (number_of e) (nodes_in t) + node_capacity) (drop edit_capacity e))
