pub mod Inside
pub mod Routes
pub mod Told
pub mod Gives
pub mod Freed
