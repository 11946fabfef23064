pub mod Slots
pub mod Growth
pub mod Sound
pub mod Caps
pub mod Layout
pub mod Grows
