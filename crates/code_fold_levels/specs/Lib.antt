pub mod Levels
pub mod helpers
