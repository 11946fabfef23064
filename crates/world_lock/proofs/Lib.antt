mod Polite
pub mod Sent
mod Turning
