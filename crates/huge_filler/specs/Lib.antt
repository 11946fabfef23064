pub mod GivingOrder
pub mod Keys
pub mod Measures
