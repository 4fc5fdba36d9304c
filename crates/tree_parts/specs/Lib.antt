pub mod Parts
pub mod helpers
