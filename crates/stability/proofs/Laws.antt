-- Laws that the functions' proofs cite.
pub mod Ranges
pub mod Links
pub mod Limits
pub mod Later
pub mod Whole
pub mod Blocks
pub mod Lanes
