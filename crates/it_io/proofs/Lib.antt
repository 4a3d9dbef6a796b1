pub mod Kept
pub mod Pieces
pub mod Put
pub mod Taken
