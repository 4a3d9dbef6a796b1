pub mod Calling
pub mod Acting
pub mod Rising
pub mod Ranks
