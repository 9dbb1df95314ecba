pub mod Tables
pub mod Faults
pub mod Loading
pub mod Laws
pub mod Changes
