pub mod Scenes
pub mod Views
pub mod Chains
pub mod Verdicts
pub mod Book
pub mod Laws
pub mod Faults
