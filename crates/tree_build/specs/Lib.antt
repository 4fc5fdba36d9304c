pub mod Built
pub mod helpers
