pub mod Worth
pub mod Call
pub mod Inside
