pub mod Bags
pub mod Tables
pub mod Agrees
pub mod Acts
pub mod Alone
pub mod Rooms
pub mod Registers
