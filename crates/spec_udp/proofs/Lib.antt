pub mod Settling
pub mod Changes
pub mod RowCases
pub mod ArrivalCases
pub mod FreePorts
pub mod Examples
pub mod Refusals
pub mod Datagrams
