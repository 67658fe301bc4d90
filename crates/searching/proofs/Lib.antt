pub mod Read
pub mod Bridge
pub mod Fits
pub mod Rules
pub mod Root
pub mod Frames
pub mod Ready
