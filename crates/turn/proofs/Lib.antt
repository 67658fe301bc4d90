pub mod Signs
pub mod Tree
pub mod Accepted
pub mod Worked
pub mod Turned
pub mod Stored
