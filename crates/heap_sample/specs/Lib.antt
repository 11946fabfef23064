pub mod Samples
pub mod Rows
pub mod Profiles
pub mod Lines
pub mod Law
