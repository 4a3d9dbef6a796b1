pub mod Capped
pub mod Sending
pub mod Room
pub mod Takes
pub mod Kept
