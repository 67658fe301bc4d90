pub mod Call
pub mod Answered
