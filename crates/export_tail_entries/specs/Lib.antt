pub mod Tail
pub mod helpers
