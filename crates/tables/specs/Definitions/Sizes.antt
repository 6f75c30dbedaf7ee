-- The widths, offsets and counts of document 01, 'Rows and buffers', in bytes and rows. No other file of specs/ has these numbers.
use Rattle.std.specs.Prelude.{ℕ, ◌+◌, ◌*◌, ◌^◌}
use Rattle.matching.specs.Definitions.Sizes.{edge}
pub use Rattle.matching.specs.Definitions.Sizes.{node_rows, link_rows}

-- Fields.
abbrev pub number_size : ℕ
number_size = 2

abbrev pub position_size : ℕ
position_size = 2

abbrev pub capacity_size : ℕ
capacity_size = 2

abbrev pub distance_size : ℕ
distance_size = 4

abbrev pub amount_size : ℕ
amount_size = 2

abbrev pub count_size : ℕ
count_size = 2

-- A byte is below this.
abbrev pub byte_end : ℕ
byte_end = 256

-- Their ranges: a number is not 0, a position at most so far from 0, a capacity at least 1. A sort is 0, on-curve, or 1, off-curve.
abbrev pub number_end : ℕ
number_end = byte_end ^ number_size

abbrev pub farthest : ℕ
farthest = edge

abbrev pub most : ℕ
most = 64

abbrev pub most_sort : ℕ
most_sort = 1

-- A node: number, horizontal, vertical, capacity with the sort. A table: so many rows of these.
abbrev pub node_x : ℕ
node_x = number_size

abbrev pub node_y : ℕ
node_y = node_x + position_size

abbrev pub node_capacity : ℕ
node_capacity = node_y + position_size

abbrev pub node_size : ℕ
node_size = node_capacity + capacity_size

abbrev pub table_size : ℕ
table_size = node_size * node_rows

-- A link: A number, B number, squared distance, amount. The list: so many rows of these.
abbrev pub link_b : ℕ
link_b = number_size

abbrev pub link_distance : ℕ
link_distance = link_b + number_size

abbrev pub link_amount : ℕ
link_amount = link_distance + distance_size

abbrev pub link_size : ℕ
link_size = link_amount + amount_size

abbrev pub list_size : ℕ
list_size = link_size * link_rows

-- An edit: kind and master, a byte each, and then a node.
abbrev pub edit_number : ℕ
edit_number = 2

abbrev pub edit_x : ℕ
edit_x = edit_number + node_x

abbrev pub edit_y : ℕ
edit_y = edit_number + node_y

abbrev pub edit_capacity : ℕ
edit_capacity = edit_number + node_capacity

abbrev pub edit_size : ℕ
edit_size = edit_number + node_size

-- The counts of Bands: a squared distance has 0 to 32 binary digits.
abbrev pub band_count : ℕ
band_count = 33

abbrev pub counts_size : ℕ
counts_size = count_size * band_count
