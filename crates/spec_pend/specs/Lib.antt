pub mod PlainPend
pub mod Slots
pub mod Ends
pub mod Outs
pub mod Kept
pub mod Once
