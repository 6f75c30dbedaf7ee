-- What the contracts of this crate cite.
pub mod Repair
pub mod Sizes
pub mod State
