-- Laws that the proofs of functions cite.
pub mod Places
pub mod Boxes
