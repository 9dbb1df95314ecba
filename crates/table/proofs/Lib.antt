pub mod Keeps
pub mod Once
