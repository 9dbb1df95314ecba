pub mod Steps
pub mod Histories
pub mod Counts
pub mod Listed
pub mod Dues
