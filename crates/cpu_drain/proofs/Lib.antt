pub mod Steps
pub mod Seated
pub mod Lawful
pub mod Moved
pub mod Does
