pub mod Play
pub mod Cases1
pub mod Cases2
pub mod Cases3
pub mod SegmentWords
mod BothSidesHistories
mod OpeningHistories
mod MssHistories
mod StateHistories
mod ResetHistories
mod AbortHistories
mod ExpiryHistories
mod WindowHistories
mod TurnHistories
mod DataHistories
