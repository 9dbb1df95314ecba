pub mod Messages
pub mod Replies
pub mod Meaning
pub mod Balance
pub mod Arrival
pub mod Due
