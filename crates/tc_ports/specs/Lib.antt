pub mod Faults
pub mod Told
pub mod Shelves
pub mod Whole
pub mod Mem
pub mod Shelved
pub mod Loads
pub mod Ends
