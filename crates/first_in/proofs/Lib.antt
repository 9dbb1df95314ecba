pub mod Filled
pub mod Rings
