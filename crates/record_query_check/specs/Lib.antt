pub mod Answer
pub mod helpers
