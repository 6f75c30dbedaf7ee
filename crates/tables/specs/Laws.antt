-- How bytes, nodes and links fit.
pub mod Fields
pub mod Rows
pub mod RowsRead
pub mod Nodes
pub mod Lists
pub mod Find
pub mod Bands
pub mod Changes
pub mod ListRead
pub mod Compare
