pub mod helpers
