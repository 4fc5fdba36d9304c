pub mod Parts
pub mod Questions
pub mod helpers
