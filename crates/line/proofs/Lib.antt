pub mod Signs
pub mod Checks
pub mod Fine
pub mod Numbers
pub mod Columns
pub mod KindTests
