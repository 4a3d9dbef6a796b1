pub mod Kept
pub mod Rings
pub mod Windows
