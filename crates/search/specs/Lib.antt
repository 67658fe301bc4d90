pub mod Search
pub mod Whole
pub mod Exact
pub mod Sums
pub mod Former
pub mod Inside
