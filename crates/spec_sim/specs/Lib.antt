pub mod Bodies
pub mod Schedule
pub mod Serial
