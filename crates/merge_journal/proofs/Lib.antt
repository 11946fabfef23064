pub mod Placed
pub mod Twos
pub mod Whole
