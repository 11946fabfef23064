mod Choosing
mod Common
mod Following
mod Giving
mod Kept
mod Listed
