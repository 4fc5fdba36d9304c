pub mod Halves
pub mod Stores
