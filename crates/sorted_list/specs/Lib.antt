pub mod Contents
pub mod Kept
pub mod Measures
pub mod Order
pub mod Rows
pub mod Search
