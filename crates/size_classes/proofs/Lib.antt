pub mod Fields
pub mod Sizes
pub mod Progress
pub mod ClassFacts
