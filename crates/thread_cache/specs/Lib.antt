pub mod Cache
pub mod Rows
pub mod Fits
pub mod Holds
pub mod Laws
