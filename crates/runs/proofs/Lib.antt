pub mod Reach
pub mod Scan
pub mod Uses
