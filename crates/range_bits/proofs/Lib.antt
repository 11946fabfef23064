pub mod Alike
pub mod BitFacts
mod Common
pub mod Counts
mod Cuts
mod EndBits
pub mod Least
pub mod Placing
pub mod Joined
pub mod Narrowed
pub mod Parts
pub mod RowFacts
pub mod Scan
pub mod Stretches
pub mod RangeFacts
pub mod RangeLemmas
