pub mod PlainWorld
pub mod Admitted
pub mod Sizes
pub mod History
