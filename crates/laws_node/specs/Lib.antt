pub mod Taken
pub mod Agreement
pub mod Running
pub mod EndPoints
pub mod AtRest
pub mod Due
