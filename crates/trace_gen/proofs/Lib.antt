mod CallSteps
mod Draws
mod Forms
mod Labels
mod LinesRead
pub mod TextFields
pub mod Valid
pub mod Digits
