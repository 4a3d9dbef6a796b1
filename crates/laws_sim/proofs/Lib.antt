pub mod Linked
pub mod Points
pub mod Following
pub mod Ending
