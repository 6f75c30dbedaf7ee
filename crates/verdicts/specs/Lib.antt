-- What the contracts of this crate cite, and the laws that those above it need.
pub mod Lists
pub mod Edit
pub mod Spare
pub mod Laws
