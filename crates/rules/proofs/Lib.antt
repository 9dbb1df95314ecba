pub mod Chains
pub mod Keep
pub mod Lines
pub mod Marks
pub mod Sweeps
pub mod Walk
