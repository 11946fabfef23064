pub mod OnePlace
pub mod CellKept
pub mod Whole
pub mod Able
