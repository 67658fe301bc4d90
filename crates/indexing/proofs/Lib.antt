pub mod Least
pub mod Ended
pub mod Entries
