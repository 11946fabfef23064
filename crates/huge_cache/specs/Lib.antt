pub mod Cache
pub mod Rows
pub mod Uses
