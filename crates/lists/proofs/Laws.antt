-- Laws that the proofs of functions cite.
pub mod Rows
pub mod Compare
pub mod Bands
pub mod Zeros
