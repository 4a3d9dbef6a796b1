pub mod Found
pub mod ByNumber
pub mod Keeping
pub mod Room
pub mod EndsOnce
pub mod Ending
