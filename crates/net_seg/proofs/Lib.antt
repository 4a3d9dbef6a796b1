pub mod OptionSteps
pub mod HeaderRoom
