pub mod Locked
pub mod Stepping
