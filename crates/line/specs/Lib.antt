pub mod Refusal
pub mod Line
pub mod Inside
