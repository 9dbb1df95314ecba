pub mod Chain
pub mod Found
pub mod Laws
pub mod Steps
