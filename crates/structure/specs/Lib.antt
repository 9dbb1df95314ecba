pub mod Nodes
pub mod Structure
pub mod Lowest
pub mod Endings
pub mod Flaws
