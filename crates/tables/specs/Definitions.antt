-- What a reader has to believe, in the order in which to read it.
pub mod Sizes
pub mod Fields
pub mod Rows
pub mod Tables
pub mod Lists
pub mod Edits
pub mod Bands
