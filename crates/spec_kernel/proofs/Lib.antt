pub mod Declared
pub mod Least
pub mod NextWaiter
pub mod OneSide
pub mod WaitingParts
pub mod RisingRanks
pub mod NobodyMet
pub mod QueuesAtRest
