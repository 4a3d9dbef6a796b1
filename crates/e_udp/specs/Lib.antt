pub mod Contexts
pub mod Does
pub mod FromWire
pub mod Kept
pub mod Shows
