pub mod Spans
pub mod Begins
