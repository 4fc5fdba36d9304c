pub mod Groups
pub mod Sizes
