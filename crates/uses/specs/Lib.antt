pub mod Uses
pub mod Law
