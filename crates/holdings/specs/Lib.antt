pub mod Runs
pub mod Accounts
pub mod Kept
pub mod Apart
pub mod Books
pub mod Facts
pub mod Moves
pub mod Laws
