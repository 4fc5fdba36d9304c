pub mod Messages
pub mod Entries
pub mod Sizes
