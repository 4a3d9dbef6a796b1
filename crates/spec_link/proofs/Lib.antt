pub mod Turns
pub mod Sendings
pub mod Histories
pub mod Soon
