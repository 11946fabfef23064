pub mod Kept
pub mod Order
pub mod Regions
pub mod Total
