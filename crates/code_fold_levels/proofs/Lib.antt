pub mod Folding
pub mod Sizes
pub mod Claim
