pub mod Eq
pub mod helpers
