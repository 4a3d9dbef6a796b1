pub mod AtRest
pub mod Taken
pub mod BothNodes
pub mod Packets
pub mod OnceInBoth
pub mod CauseInBoth
