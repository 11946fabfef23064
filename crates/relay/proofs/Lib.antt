pub mod Wholes
pub mod Overs
