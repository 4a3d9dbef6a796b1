pub mod Fates
pub mod Deliveries
pub mod Link
pub mod Operations
