pub mod Signs
pub mod Above
pub mod Powers
