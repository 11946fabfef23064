mod Beside
pub mod Changes
mod Common
mod Exchanged
pub mod Found
mod Halving
mod Moves
pub mod Rows
mod Slots
mod Turns
