pub mod Lists
pub mod Edit
pub mod Spare
