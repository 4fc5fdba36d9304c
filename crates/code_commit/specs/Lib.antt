pub mod Level
pub mod Lent
pub mod helpers
