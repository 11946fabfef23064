pub mod Victims
pub mod SlabFacts
pub mod LaidOut
pub mod GrowthFacts
pub mod BestVictim
pub mod Opened
pub mod GrownExactly
