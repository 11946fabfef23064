pub mod Closes
pub mod Joins
pub mod Lock
pub mod Turns
