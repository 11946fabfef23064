pub mod Fills
pub mod FreeRanges
pub mod Ranges
pub mod Words
