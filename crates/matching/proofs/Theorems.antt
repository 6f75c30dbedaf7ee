-- What is proved of the join: docs/PROOFS.md lists the promises with their theorems.
pub mod Join
pub mod Some
pub mod Amounts
pub mod Query
pub mod Copies
pub mod Mutual
pub mod Locality
pub mod RowOrder
pub mod Exchange
pub mod Checked
pub mod Sorts
