pub mod Judge
pub mod Call
pub mod Inside
