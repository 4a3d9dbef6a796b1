pub mod Found
pub mod Apart
pub mod Searching
pub mod Telling
pub mod Declaring
pub mod AtQueues
pub mod SemaphoreLaws
pub mod FlagLaws
