-- What the contracts of this crate cite.
pub mod Sizes
pub mod Ranges
pub mod Blocking
pub mod Barred
pub mod Links
pub mod Limits
pub mod Later
pub mod Blocks
pub mod Lanes
pub mod Sides
