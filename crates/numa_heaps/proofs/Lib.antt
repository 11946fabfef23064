pub mod Acting
pub mod Ranges
pub mod Owners
pub mod LabelCounts
pub mod Opened
pub mod Pages
pub mod FinishFacts
