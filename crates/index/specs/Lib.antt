pub mod Index
pub mod Inside
