pub mod Limits
pub mod Steps
pub mod Walking
pub mod Answers
