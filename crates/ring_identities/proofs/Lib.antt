pub mod Identities
pub mod Sizes
