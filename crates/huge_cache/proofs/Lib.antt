mod Common
mod Found
pub mod Greatest
pub mod Kept
pub mod Padded
