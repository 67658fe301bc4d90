pub mod Play
pub mod Unread
pub mod Entered
pub mod Turned
