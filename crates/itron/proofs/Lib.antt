pub mod OneWord
pub mod Answered
pub mod Ran
