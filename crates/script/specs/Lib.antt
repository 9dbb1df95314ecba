pub mod Calls
pub mod Names
pub mod Numbers
pub mod Outlets
pub mod Parts
