pub mod Rollout
pub mod Whole
pub mod Leaves
pub mod Store
pub mod Inside
