pub mod Place
pub mod helpers
