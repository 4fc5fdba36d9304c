pub mod Whole
pub mod Hasher
pub mod Sequence
pub mod helpers
