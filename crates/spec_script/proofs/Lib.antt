mod Answers
mod LoopHistories
mod PatternHistories
mod ReceptionHistories
mod SendingHistories
pub mod Passing
