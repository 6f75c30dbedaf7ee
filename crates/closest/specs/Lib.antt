-- What the contracts of this crate cite. A caller needs none of it: `join` speaks matching's terms.
pub mod Sizes
pub mod Rows
pub mod Live
pub mod Blocks
pub mod Nearest
pub mod Order
pub mod Chain
