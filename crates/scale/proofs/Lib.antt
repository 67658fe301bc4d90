pub mod Sums
pub mod Taken
