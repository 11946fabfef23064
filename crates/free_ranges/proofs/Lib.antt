mod Bounded
mod Common
mod Found
mod Listed
mod Lists
mod Marked
mod Pieces
