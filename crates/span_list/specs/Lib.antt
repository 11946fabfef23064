pub mod Bits
pub mod Span
