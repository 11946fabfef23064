pub mod InputFacts
pub mod OpeningFacts
pub mod ValidFacts
pub mod FinishFacts
pub mod AlongFacts
pub mod StandingFacts
pub mod TellingFacts
pub mod TakingFacts
