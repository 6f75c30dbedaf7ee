-- What the contracts of this crate cite, and the laws of departures for its callers.
pub mod Update
pub mod Rows
pub mod Departures
