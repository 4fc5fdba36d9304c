pub mod Strings
pub mod Product
pub mod Ghash
pub mod Blocks
pub mod helpers
