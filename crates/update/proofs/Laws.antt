-- What the proofs of this crate lean on.
pub mod Lists
pub mod Written
pub mod Node
pub mod Update
