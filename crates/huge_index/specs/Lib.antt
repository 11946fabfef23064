pub mod Contents
pub mod Order
pub mod Rows
pub mod Total
