pub mod Grains
pub mod Complete
pub mod Top
