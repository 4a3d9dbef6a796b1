pub mod Timing
pub mod Connection
pub mod Windows
pub mod Arrival
pub mod Emission
pub mod Opening
pub mod Acts
