pub mod CacheFacts
pub mod CachesLaw
pub mod Lists
pub mod OpeningFacts
pub mod Orders
pub mod RowActs
pub mod Stacks
