pub mod Exits
pub mod Lines
pub mod Ranges
pub mod Text
pub mod Configuration
pub mod Interpreter
