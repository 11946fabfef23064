pub mod Joined
pub mod Nodes
pub mod Beside
pub mod Numa
pub mod OneNode
pub mod NodeActs
pub mod NumaLaw
