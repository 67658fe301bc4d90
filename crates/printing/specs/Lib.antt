pub mod Program
pub mod Padding
pub mod Inside
