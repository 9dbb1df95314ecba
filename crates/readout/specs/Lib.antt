pub mod Bytes
pub mod Layers
pub mod Lines
pub mod Shown
