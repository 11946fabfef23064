pub mod Rows
pub mod Numbered
pub mod Places
pub mod Live
pub mod Fits
pub mod Grown
pub mod Chosen
pub mod Routes
pub mod Fillers
pub mod Regions
pub mod Remade
pub mod Settled
pub mod Longest
pub mod Given
pub mod Left
pub mod Ended
pub mod Released
pub mod Opened
pub mod GiveUps
pub mod Accounts
pub mod NoneBacked
pub mod Orders
pub mod Spared
pub mod Enough
pub mod ReleaseDoes
mod Placing
mod Unbacking
