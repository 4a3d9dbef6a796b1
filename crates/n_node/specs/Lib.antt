pub mod Plain
pub mod Callers
pub mod Coming
pub mod Contexts
