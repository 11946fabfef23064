pub mod NoCaches
pub mod Laws
pub mod NoCachesLaw
