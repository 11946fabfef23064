pub mod SoFar
pub mod Finds
pub mod Written
