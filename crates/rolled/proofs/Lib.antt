pub mod Given
pub mod Call
pub mod Answered
