-- Laws that the functions' proofs cite.
pub mod Pairs
pub mod Spans
pub mod Rest
pub mod Live
pub mod Refresh
pub mod Blocks
pub mod Nearest
pub mod Chain
pub mod Decide
pub mod Step
pub mod Order
pub mod Merge
pub mod Sorts
