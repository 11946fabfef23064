pub mod Joins
pub mod Verdicts
pub mod Keeps
pub mod Valids
pub mod Picked
pub mod Values
