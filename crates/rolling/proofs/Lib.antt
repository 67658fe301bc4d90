pub mod Stored
pub mod Capped
pub mod Listed
pub mod Rows
pub mod Walks
pub mod Paths
pub mod Looped
