pub mod Draws
pub mod Fields
pub mod Generated
pub mod Said
pub mod TraceText
