pub mod Report
pub mod Files
pub mod Padding
pub mod Inside
