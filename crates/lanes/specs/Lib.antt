pub mod Calls
pub mod Lanes
