-- Laws that the proofs of this crate and of those above lean on.
pub mod Accepted
pub mod Digits
pub mod Edited
pub mod Edits
pub mod Faultless
pub mod Faults
pub mod ListCode
pub mod Puts
pub mod Search
pub mod Tables
