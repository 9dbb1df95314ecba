pub mod Faults
pub mod Refusals
pub mod Judging
pub mod Trials
pub mod Calls
pub mod Writing
pub mod Permits
