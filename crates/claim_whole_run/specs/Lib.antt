pub mod Whole
pub mod helpers
