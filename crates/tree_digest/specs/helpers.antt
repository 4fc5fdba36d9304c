pub mod Hashed
pub mod Begun
