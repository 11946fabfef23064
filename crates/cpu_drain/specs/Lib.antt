pub mod Drains
pub mod Seats
pub mod Laws
