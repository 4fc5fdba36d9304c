pub mod Domain
pub mod Sizes
