pub mod Central
pub mod Ranking
pub mod Slots
pub mod Runs
