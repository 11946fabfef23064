pub mod Ranges
pub mod Cuts
pub mod Joins
pub mod Decimals
pub mod Printed
pub mod Numbers
pub mod Blocks
