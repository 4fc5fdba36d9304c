pub mod State
pub mod helpers
