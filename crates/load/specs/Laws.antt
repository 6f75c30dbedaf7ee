-- What follows from the contracts, for callers and for the proofs of this crate.
pub mod Parts
pub mod Decode
pub mod LookUp
pub mod Sound
pub mod Loaded
pub mod Represents
