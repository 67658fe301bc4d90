pub mod Rules
pub mod Numbers
pub mod Accepted
pub mod Order
pub mod Rows
pub mod Written
pub mod Worked
