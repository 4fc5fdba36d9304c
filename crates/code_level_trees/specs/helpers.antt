pub mod Grown
pub mod Room
