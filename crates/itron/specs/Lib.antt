pub mod Top
pub mod Messages
pub mod Prints
