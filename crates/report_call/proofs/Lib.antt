pub mod Sums
pub mod Going
pub mod Answered
