pub mod Outcomes
pub mod Turning
mod Blanks
pub mod WholeRows
pub mod Wholes
pub mod WholeCalls
pub mod WholeSteps
pub mod Used
pub mod Calm
pub mod Stepping
pub mod Loading
pub mod Safe
pub mod Exact
pub mod Balance
pub mod WholeUses
pub mod Law
