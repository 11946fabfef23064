mod First
mod Ranks
