pub mod Cases
pub mod Small
pub mod Rows
pub mod Refusals
pub mod Files
pub mod Decisions
pub mod Padding
