pub mod Own
pub mod Call
pub mod Answered
