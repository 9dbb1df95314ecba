pub mod Entries
pub mod Lists
pub mod Rows
