pub mod OpeningFacts
pub mod Taken
