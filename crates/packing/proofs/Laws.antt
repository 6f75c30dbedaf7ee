-- Laws that the proofs of functions cite.
pub mod Exchange
pub mod Packed
