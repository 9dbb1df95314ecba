pub mod Alone
pub mod Ending
pub mod Keeping
pub mod Sessions
pub mod Spending
pub mod Written
