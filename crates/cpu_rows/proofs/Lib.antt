pub mod Common
pub mod Nexts
mod Acts
mod Answering
mod Entering
mod Switching
mod Sitting
mod Growing
pub mod DrainCounts
pub mod Afterwards
mod Anywhere
pub mod CpuLaw
mod Domains
mod Entries
mod Lists
mod Moves
mod Parts
mod Sequences
pub mod Start
mod Stops
mod Threads
