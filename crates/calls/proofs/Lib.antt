pub mod Judged
pub mod Passed
pub mod Restored
pub mod Nodes
pub mod Opened
