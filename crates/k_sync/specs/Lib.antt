pub mod Waiting
pub mod KeptSemaphores
pub mod KeptQueues
