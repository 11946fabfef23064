pub mod Local
pub mod Opening
pub mod Machine
