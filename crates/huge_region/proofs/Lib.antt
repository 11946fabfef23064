mod Apart
mod Came
mod Chosen
mod Common
mod Kept
