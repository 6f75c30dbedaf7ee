-- What the contracts of this crate cite, and laws of it.
pub mod Load
pub mod Index
pub mod Fault
pub mod Laws
