pub mod Claims
pub mod Scores
pub mod Said
