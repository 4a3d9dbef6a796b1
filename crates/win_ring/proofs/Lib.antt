pub mod Turning
pub mod Places
